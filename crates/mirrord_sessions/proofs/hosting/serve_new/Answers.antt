use Rattle.std.proofs.Common.{inl, ap, subst, sym, ◌∙◌}
use Rattle.engine.specs.AloneLemmas.{opened_idle}
use Rattle.table_steps.specs.Kept.{world_of}
use Rattle.table_steps.specs.World.{World, opened_world}
use Rattle.table_hiding.specs.Hiding.{KeepsHidden}
use Rattle.table_hiding.proofs.Keeping.{opened_keeps}
use Rattle.mirrord_sessions.proofs.hosting.serve_new.Goals as goal

pub serve-end-requires : goal.serve-end-requires
serve-end-requires g c = record { fresh = opened_idle _ (world_of c.in-Ok.table) c.in-Ok.ensures.opened }

pub returns : goal.returns
returns g c = inl (record {
  world = world_of c.in-Ok.table;
  opened = c.in-Ok.ensures.opened ∙ ap opened_world c.limits.ensures.limits;
  last = world_of c.serve-end.new.table;
  dirs = _;
  limits_are = c.requires.limits;
  dirs_left = c.serve-end.new.served.dirs;
  run = rw c.new-session.ensures.settings at c.serve-end.ensures.serves;
  hidden = rw c.new-session.ensures.settings at (c.serve-end.ensures.hidden (subst (λ (w : World). KeepsHidden w) (sym c.in-Ok.ensures.opened) (opened_keeps _)));
})
