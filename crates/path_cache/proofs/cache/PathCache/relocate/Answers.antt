use Rattle.std.proofs.Common.{refl, ◌∙◌, arith}
use Rattle.path_cache.specs.Places.{number_of}
use Rattle.path_cache.specs.Entries.{found}
use Rattle.path_cache.proofs.Moving.{move_numbered, moves_entry, is_relocated, moved_placed, place_below}
use Rattle.path_cache.proofs.cache.PathCache.relocate.Goals as goal

pub returns-then-folder-self-clause-kept : goal.returns-then-folder-self-clause-kept
returns-then-folder-self-clause-kept g c up above =
    rw (← c.self.view_is) (λ is_from is_to apart.
    let below = place_below _ c.self.invariant.0 c.args.to above is_to in
    absurd (omega (arith, below, c.number-folder.ensures, c.if-folder-self.true)))

pub invariant_of-self : goal.invariant_of-self
invariant_of-self g c =
    let was = c.self.inside.entries.entries in
    let n = c.number-parent.result in
    let m = c.number-folder.result in
    let may = moves_entry was c.take_out-moved.new.entries.entries c.take_out.new.entries.entries c.put_back.new.entries.entries c.take_out-moved.result n c.args.from_name.now m c.args.to_name.now n m refl refl
    c.take_out-moved.ensures.entry c.take_out-moved.ensures.found c.take_out.ensures.found c.put_back.ensures.put in (
      move_numbered (found was) c.self.inside.next c.self.invariant.0 n c.args.from_name.now m c.args.to_name.now (omega (arith, c.if-folder-self.false)) (found was n c.args.from_name.now) refl (found c.put_back.new.entries.entries) may,
      c.put_back.ensures.cap ∙ (c.take_out.ensures.cap ∙ (c.take_out-moved.ensures.cap ∙ c.self.invariant.1)),
      omega (arith, c.put_back.ensures.len, c.take_out.ensures.len, c.take_out-moved.ensures.len, c.self.invariant.2),
    )

pub returns-clause-kept : goal.returns-clause-kept
returns-clause-kept g c up above =
    let was = c.self.inside.entries.entries in
    let may = moves_entry was c.take_out-moved.new.entries.entries c.take_out.new.entries.entries c.put_back.new.entries.entries c.take_out-moved.result c.number-parent.result c.args.from_name.now c.number-folder.result c.args.to_name.now
    (number_of c.args.from) (number_of c.args.to) c.number-parent.ensures c.number-folder.ensures
    c.take_out-moved.ensures.entry c.take_out-moved.ensures.found c.take_out.ensures.found c.put_back.ensures.put in
    rw (← c.self.view_is) (λ is_from is_to apart.
    is_relocated _ _ c.self.invariant.0 refl c.args.from up is_from c.args.from_name.now c.args.to above is_to c.args.to_name.now apart (found was (number_of c.args.from) c.args.from_name.now) refl may)

pub returns-clause-places : goal.returns-clause-places
returns-clause-places g c up above =
    let was = c.self.inside.entries.entries in
    let may = moves_entry was c.take_out-moved.new.entries.entries c.take_out.new.entries.entries c.put_back.new.entries.entries c.take_out-moved.result c.number-parent.result c.args.from_name.now c.number-folder.result c.args.to_name.now
    (number_of c.args.from) (number_of c.args.to) c.number-parent.ensures c.number-folder.ensures
    c.take_out-moved.ensures.entry c.take_out-moved.ensures.found c.take_out.ensures.found c.put_back.ensures.put in
    rw (← c.self.view_is) (λ is_from is_to apart.
    moved_placed _ _ c.self.invariant.0 refl c.args.from up is_from c.args.from_name.now c.args.to above is_to c.args.to_name.now apart (found was (number_of c.args.from) c.args.from_name.now) refl may)
