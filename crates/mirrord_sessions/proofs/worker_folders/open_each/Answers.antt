use Rattle.std.proofs.Common.{ℕ, ◌≡◌, replicate, ap, ◌∙◌, arith}
use Rattle.mirrord_sessions.proofs.worker_folders.open_each.Goals as goal

pub returns-clause-unused : goal.returns-clause-unused
returns-clause-unused g c =
    let all : c.loop-opened.opened ≡ c.args.workers = omega (arith, c.loop-opened.auto.opened-end, c.loop-opened-test.false) in
    c.loop-opened.invariant.unused ∙ ap (λ (n : ℕ). replicate n 0) all
