use Rattle.std.proofs.Common.{◌+◌, ◌-◌, ◌<◌, Option, Some, None, sym, ap, ◌∙◌, subst, inl, inr, arith}
use Rattle.std.specs.Prelude.{unwrap_or}
use Rattle.std.proofs.lemmas.Option.{none-some, same_Some}
use Rattle.collections.specs.Living.{found, weight}
use Rattle.holds.specs.declared.numbers.Holders.{Holders}
use Rattle.holds.specs.Numbers.{is_same_path, no_holders}
use Rattle.holds.proofs.Numbering.{fallen, held_still, rewritten}
use Rattle.holds.proofs.numbers.lower.Goals as goal

pub returns-then-less-eq0-2-clause-shared : goal.returns-then-less-eq0-2-clause-shared
returns-then-less-eq0-2-clause-shared c =
    let old = found is_same_path c.args.numbers.now.by_path in
    let there = sym c.take.ensures.before ∙ c.in-Some.is in
    let new = found is_same_path c.take.new.map in
    let was = ap (λ (o : Option Holders). (unwrap_or o no_holders).shared) there in
    let least = c.requires.shared in
    let zero = c.if-less-eq0.true in
    fallen old new c.args.path.now None c.take.ensures.taken (λ h. h.shared) c.args.one.shared (omega (arith, was, least, zero))

pub returns-then-less-eq0-2-clause-exclusive : goal.returns-then-less-eq0-2-clause-exclusive
returns-then-less-eq0-2-clause-exclusive c =
    let old = found is_same_path c.args.numbers.now.by_path in
    let there = sym c.take.ensures.before ∙ c.in-Some.is in
    let new = found is_same_path c.take.new.map in
    let was = ap (λ (o : Option Holders). (unwrap_or o no_holders).exclusive) there in
    let least = c.requires.exclusive in
    let zero = c.if-less-eq0-2.true in
    fallen old new c.args.path.now None c.take.ensures.taken (λ h. h.exclusive) c.args.one.exclusive (omega (arith, was, least, zero))

pub returns-then-less-eq0-2-clause-law : goal.returns-then-less-eq0-2-clause-law
returns-then-less-eq0-2-clause-law c =
    let old = found is_same_path c.args.numbers.now.by_path in
    let there = sym c.take.ensures.before ∙ c.in-Some.is in
    let new = found is_same_path c.take.new.map in
    let counted = c.requires.law.counted in
    let live = c.take.ensures.live in
    let told = ap weight there in
    record {
      counted = omega (arith, counted, live, told);
      held = held_still old new c.args.path.now None c.take.ensures.taken (λ h e. absurd (none-some h e)) c.requires.law.held;
    }

pub returns-else-less-eq0-clause-shared : goal.returns-else-less-eq0-clause-shared
returns-else-less-eq0-clause-shared c =
    let old = found is_same_path c.args.numbers.now.by_path in
    let there = sym c.take.ensures.before ∙ c.in-Some.is in
    let gone = found is_same_path c.take.new.map in
    let new = found is_same_path c.put_back.new.map in
    let less : Holders = record { shared = c.in-Some.holders.shared - c.args.one.shared; exclusive = c.in-Some.holders.exclusive - c.args.one.exclusive } in
    let written = rewritten old gone new c.args.path.now None (Some less) c.take.ensures.taken c.put_back.ensures.put in
    let was = ap (λ (o : Option Holders). (unwrap_or o no_holders).shared) there in
    let least = c.requires.shared in
    fallen old new c.args.path.now (Some less) written (λ h. h.shared) c.args.one.shared (omega (arith, was, least))

pub returns-else-less-eq0-clause-exclusive : goal.returns-else-less-eq0-clause-exclusive
returns-else-less-eq0-clause-exclusive c =
    let old = found is_same_path c.args.numbers.now.by_path in
    let there = sym c.take.ensures.before ∙ c.in-Some.is in
    let gone = found is_same_path c.take.new.map in
    let new = found is_same_path c.put_back.new.map in
    let less : Holders = record { shared = c.in-Some.holders.shared - c.args.one.shared; exclusive = c.in-Some.holders.exclusive - c.args.one.exclusive } in
    let written = rewritten old gone new c.args.path.now None (Some less) c.take.ensures.taken c.put_back.ensures.put in
    let was = ap (λ (o : Option Holders). (unwrap_or o no_holders).exclusive) there in
    let least = c.requires.exclusive in
    fallen old new c.args.path.now (Some less) written (λ h. h.exclusive) c.args.one.exclusive (omega (arith, was, least))

pub returns-else-less-eq0-clause-law : goal.returns-else-less-eq0-clause-law
returns-else-less-eq0-clause-law c =
    let old = found is_same_path c.args.numbers.now.by_path in
    let there = sym c.take.ensures.before ∙ c.in-Some.is in
    let gone = found is_same_path c.take.new.map in
    let new = found is_same_path c.put_back.new.map in
    let less : Holders = record { shared = c.in-Some.holders.shared - c.args.one.shared; exclusive = c.in-Some.holders.exclusive - c.args.one.exclusive } in
    let written = rewritten old gone new c.args.path.now None (Some less) c.take.ensures.taken c.put_back.ensures.put in
    let counted = c.requires.law.counted in
    let taken = c.take.ensures.live in
    let back = c.put_back.ensures.live in
    let told = ap weight there in
    let some : 0 < less.shared + less.exclusive = elim c.else-less-eq0.either [ inl a ↦ omega (arith, a.1) | inr b ↦ omega (arith, b) ] in
    record {
      counted = omega (arith, counted, taken, back, told);
      held = held_still old new c.args.path.now (Some less) written
          (λ h e. subst (λ (x : Holders). 0 < x.shared + x.exclusive) (same_Some less h e) some) c.requires.law.held;
    }
