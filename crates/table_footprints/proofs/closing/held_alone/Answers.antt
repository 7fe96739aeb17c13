use Rattle.std.proofs.Common.{sym, subst, rules, ◌↔◌, Contains, List}
use Rattle.paths.specs.Prefixes.{Names}
use Rattle.tree.specs.Places.{at_in}
use Rattle.table_footprints.specs.Asked.{IsAboveAt}
use Rattle.table_footprints.specs.Footprints.{AtNode}
use Rattle.table_footprints.proofs.Lasting.{above_held}
use Rattle.table_footprints.proofs.closing.held_alone.Goals as goal

pub returns : goal.returns
returns c =
    let at = at_in c.args._tree.now in
    record {
      given = search rules;
      shared = subst (λ (ps : List Names). (p : Names) → Contains ps p ↔ IsAboveAt at p (AtNode c.args.number)) (sym c.in_ok-prefixes_of.ensures.whole)
          (above_held at c.requires.tree c.args.number c.args.path.now c.requires.leads c.requires.not_root c.in_ok-above.above c.in_ok-above.ensures);
      exclusive = search rules;
    }
