use Rattle.std.proofs.Common.{◌+◌, ◌<◌, Option, Some, None, sym, ap, ◌∙◌, subst, arith}
use Rattle.std.specs.Prelude.{unwrap_or}
use Rattle.std.proofs.lemmas.Option.{same_Some}
use Rattle.collections.specs.Living.{found, weight}
use Rattle.holds.specs.declared.numbers.Holders.{Holders}
use Rattle.holds.specs.Numbers.{is_same_path, no_holders}
use Rattle.holds.proofs.Numbering.{held_still, put_at, rewritten, risen, told_at}
use Rattle.holds.proofs.numbers.raise.Goals as goal

pub overflow_add-more : goal.overflow_add-more
overflow_add-more c =
    let old = found is_same_path c.args.numbers.now.by_path in
    let there = told_at old c.replace.result (Some c.in-Some.holders) c.in_ok-copy.ensures c.replace.ensures.before c.in-Some.is in
    let was = ap (λ (o : Option Holders). (unwrap_or o no_holders).shared) there in
    let few = c.requires.shared in
    omega (arith, was, few)

pub overflow_add-more-in-Some : goal.overflow_add-more-in-Some
overflow_add-more-in-Some c =
    let old = found is_same_path c.args.numbers.now.by_path in
    let there = told_at old c.replace.result (Some c.in-Some.holders) c.in_ok-copy.ensures c.replace.ensures.before c.in-Some.is in
    let was = ap (λ (o : Option Holders). (unwrap_or o no_holders).exclusive) there in
    let few = c.requires.exclusive in
    omega (arith, was, few)

pub returns-in-Some-clause-shared : goal.returns-in-Some-clause-shared
returns-in-Some-clause-shared c =
    let old = found is_same_path c.args.numbers.now.by_path in
    let there = told_at old c.replace.result (Some c.in-Some.holders) c.in_ok-copy.ensures c.replace.ensures.before c.in-Some.is in
    let one = found is_same_path c.replace.new.map in
    let new = found is_same_path c.set.new.map in
    let more : Holders = record { shared = c.in-Some.holders.shared + c.args.one.shared; exclusive = c.in-Some.holders.exclusive + c.args.one.exclusive } in
    let put = put_at old one (Some c.args.one) c.in_ok-copy.ensures c.replace.ensures.put in
    let written = rewritten old one new c.args.path.now (Some c.args.one) (Some more) put c.set.ensures.set in
    let was = ap (λ (o : Option Holders). (unwrap_or o no_holders).shared) there in
    risen old new c.args.path.now (Some more) written (λ h. h.shared) c.args.one.shared (omega (arith, was))

pub returns-in-Some-clause-exclusive : goal.returns-in-Some-clause-exclusive
returns-in-Some-clause-exclusive c =
    let old = found is_same_path c.args.numbers.now.by_path in
    let there = told_at old c.replace.result (Some c.in-Some.holders) c.in_ok-copy.ensures c.replace.ensures.before c.in-Some.is in
    let one = found is_same_path c.replace.new.map in
    let new = found is_same_path c.set.new.map in
    let more : Holders = record { shared = c.in-Some.holders.shared + c.args.one.shared; exclusive = c.in-Some.holders.exclusive + c.args.one.exclusive } in
    let put = put_at old one (Some c.args.one) c.in_ok-copy.ensures c.replace.ensures.put in
    let written = rewritten old one new c.args.path.now (Some c.args.one) (Some more) put c.set.ensures.set in
    let was = ap (λ (o : Option Holders). (unwrap_or o no_holders).exclusive) there in
    risen old new c.args.path.now (Some more) written (λ h. h.exclusive) c.args.one.exclusive (omega (arith, was))

pub returns-in-Some-clause-law : goal.returns-in-Some-clause-law
returns-in-Some-clause-law c =
    let old = found is_same_path c.args.numbers.now.by_path in
    let there = told_at old c.replace.result (Some c.in-Some.holders) c.in_ok-copy.ensures c.replace.ensures.before c.in-Some.is in
    let one = found is_same_path c.replace.new.map in
    let new = found is_same_path c.set.new.map in
    let more : Holders = record { shared = c.in-Some.holders.shared + c.args.one.shared; exclusive = c.in-Some.holders.exclusive + c.args.one.exclusive } in
    let put = put_at old one (Some c.args.one) c.in_ok-copy.ensures c.replace.ensures.put in
    let written = rewritten old one new c.args.path.now (Some c.args.one) (Some more) put c.set.ensures.set in
    let counted = c.requires.law.counted in
    let live = c.replace.ensures.live in
    let same = c.set.ensures.live in
    let told = ap weight (sym c.replace.ensures.before ∙ c.in-Some.is) in
    let some = c.requires.some in
    record {
      counted = omega (arith, counted, live, same, told);
      held = held_still old new c.args.path.now (Some more) written
          (λ h e. subst (λ (x : Holders). 0 < x.shared + x.exclusive) (same_Some more h e) (omega (arith, some))) c.requires.law.held;
    }

pub returns-in-None-clause-shared : goal.returns-in-None-clause-shared
returns-in-None-clause-shared c =
    let old = found is_same_path c.args.numbers.now.by_path in
    let free = told_at old c.replace.result None c.in_ok-copy.ensures c.replace.ensures.before c.in-None.is in
    let new = found is_same_path c.replace.new.map in
    let put = put_at old new (Some c.args.one) c.in_ok-copy.ensures c.replace.ensures.put in
    let was = ap (λ (o : Option Holders). (unwrap_or o no_holders).shared) free in
    risen old new c.args.path.now (Some c.args.one) put (λ h. h.shared) c.args.one.shared (omega (arith, was))

pub returns-in-None-clause-exclusive : goal.returns-in-None-clause-exclusive
returns-in-None-clause-exclusive c =
    let old = found is_same_path c.args.numbers.now.by_path in
    let free = told_at old c.replace.result None c.in_ok-copy.ensures c.replace.ensures.before c.in-None.is in
    let new = found is_same_path c.replace.new.map in
    let put = put_at old new (Some c.args.one) c.in_ok-copy.ensures c.replace.ensures.put in
    let was = ap (λ (o : Option Holders). (unwrap_or o no_holders).exclusive) free in
    risen old new c.args.path.now (Some c.args.one) put (λ h. h.exclusive) c.args.one.exclusive (omega (arith, was))

pub returns-in-None-clause-law : goal.returns-in-None-clause-law
returns-in-None-clause-law c =
    let old = found is_same_path c.args.numbers.now.by_path in
    let free = told_at old c.replace.result None c.in_ok-copy.ensures c.replace.ensures.before c.in-None.is in
    let new = found is_same_path c.replace.new.map in
    let put = put_at old new (Some c.args.one) c.in_ok-copy.ensures c.replace.ensures.put in
    let counted = c.requires.law.counted in
    let live = c.replace.ensures.live in
    let told = ap weight (sym c.replace.ensures.before ∙ c.in-None.is) in
    record {
      counted = omega (arith, counted, live, told);
      held = held_still old new c.args.path.now (Some c.args.one) put
          (λ h e. subst (λ (x : Holders). 0 < x.shared + x.exclusive) (same_Some c.args.one h e) c.requires.some) c.requires.law.held;
    }
