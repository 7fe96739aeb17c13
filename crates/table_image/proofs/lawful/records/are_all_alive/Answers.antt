use Rattle.std.proofs.Common.{ℕ, ◌||◌, Bool, rules, inl, inr}
use Rattle.std.proofs.lemmas.Bool.{or_cases, or_left, or_right}
use Rattle.tree.specs.Places.{Lookup}
use Rattle.tree.specs.Listed.{node_at}
use Rattle.table_files.specs.OpenEntry.{opened_in}
use Rattle.table_law.specs.Law.{AreAlive}
use Rattle.table_image.specs.ImageLaw.{is_pinned}
use Rattle.table_image.proofs.lawful.records.are_all_alive.Goals as goal

either_alive : (at : Lookup) (p q : ℕ → Bool) → AreAlive at p → AreAlive at q → AreAlive at (λ n. p n || q n)
either_alive at p q one two n h = elim (or_cases (p n) (q n) h) [
  | inl first ↦ one n first
  | inr second ↦ two n second
]

pub returns-then-are_pins_alive : goal.returns-then-are_pins_alive
returns-then-are_pins_alive c =
    let at = node_at c.args.nodes.now in
    let p = is_pinned c.args.records.now in
    let q = opened_in c.args.files.now in (
      λ yes. either_alive at p q (c.are_pins_alive.ensures.0 (search rules)) (c.are_files_alive.ensures.0 yes),
      λ all. c.are_files_alive.ensures.1 (λ n h. all n (or_right (p n) (q n) h)),
    )

pub returns-else-are_pins_alive : goal.returns-else-are_pins_alive
returns-else-are_pins_alive c =
    let p = is_pinned c.args.records.now in
    let q = opened_in c.args.files.now in (
      λ yes. absurd (search rules),
      λ all. absurd (let one = c.are_pins_alive.ensures.1 (λ n h. all n (or_left (p n) (q n) h)) in search rules),
    )
