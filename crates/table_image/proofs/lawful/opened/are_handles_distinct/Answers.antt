use Rattle.std.proofs.Common.{ℕ, ◌+◌, ◌<◌, ◌≡◌, ◌↔◌, IsTrue, All, List, length, drop, get_or, rules, arith, subst}
use Rattle.std.proofs.lemmas.List.{get_or_default}
use Rattle.table_files.specs.declared.data.Access.TheVariants.{Reading}
use Rattle.table_files.specs.declared.listed.OpenEntry.{OpenEntry}
use Rattle.table_image.specs.Parts.{HaveOtherHandles}
use Rattle.table_image.proofs.Pairs.{slice_from, pairs_below-more, pairs_after}
use Rattle.table_image.proofs.lawful.opened.are_handles_distinct.Goals as goal

-- the default that is read past the end of the list
abbrev none_there : OpenEntry
none_there = record { handle = 0; file = record { number = 0; generation = 0; access = Reading } }

at_place : (fs : List OpenEntry) (i : ℕ) → i < length fs → get_or fs i none_there ≡ get_or fs i (get_or fs i none_there)
at_place fs i within = get_or_default fs i none_there (get_or fs i none_there) within

pub returns-then-not-has_own_handle : goal.returns-then-not-has_own_handle
returns-then-not-has_own_handle c =
    let fs = c.args.files.now in
    let i = c.loop-i.i in
    let f : OpenEntry = get_or fs i none_there in
    let within : i < length fs = omega arith in
    let test : IsTrue c.has_own_handle.result ↔ All (HaveOtherHandles f) (drop (i + 1) fs) =
    subst (λ (gs : List OpenEntry). IsTrue c.has_own_handle.result ↔ All (HaveOtherHandles f) gs) (slice_from fs (i + 1)) c.has_own_handle.ensures in (
      λ yes. absurd (search rules),
      λ apart.
          let yes : IsTrue c.has_own_handle.result = test.1 (pairs_after HaveOtherHandles fs i f within (at_place fs i within) apart) in
          absurd (search rules),
    )

pub loop-i-preserved : goal.loop-i-preserved
loop-i-preserved c =
    let fs = c.args.files.now in
    let i = c.loop-i.i in
    let f : OpenEntry = get_or fs i none_there in
    let within : i < length fs = omega arith in
    let test : IsTrue c.has_own_handle.result ↔ All (HaveOtherHandles f) (drop (i + 1) fs) =
    subst (λ (gs : List OpenEntry). IsTrue c.has_own_handle.result ↔ All (HaveOtherHandles f) gs) (slice_from fs (i + 1)) c.has_own_handle.ensures in
    pairs_below-more HaveOtherHandles fs i f within (at_place fs i within) (test.0 (search rules)) c.loop-i.invariant
