use Rattle.std.proofs.Common.{ℕ, ◌≡◌, ◌⊎◌, Bool, subst, sym, inl, inr}
use Rattle.tree.specs.Places.{at_in}
use Rattle.table_steps.specs.Ending.{name_at}
use Rattle.table_steps.specs.Steps.{Replaces}
use Rattle.table_steps.proofs.Placing.{children_more}
use Rattle.table_steps.proofs.Replacing.{may_follow, replaced, replaced_children, replaced_none, target_leads}
use Rattle.table_steps.proofs.NewlyCut.{listed_then}
use Rattle.table_steps.proofs.name_changes.replace_at.Goals as goal

pub move_at-requires-clause-target_leads : goal.move_at-requires-clause-target_leads
move_at-requires-clause-target_leads c =
    target_leads (at_in c.args.tree.now) (at_in c.hide_at.new.tree) c.hide_at.ensures.tree c.args.key.now c.args.target.key c.args.candidate.key c.requires.leads c.requires.may c.requires.may_hide c.hide_at.ensures.hides

pub move_at-requires-clause-may : goal.move_at-requires-clause-may
move_at-requires-clause-may c =
    may_follow (at_in c.args.tree.now) (at_in c.hide_at.new.tree) c.hide_at.ensures.tree c.args.key.now c.args.target.key c.args.candidate.key c.requires.leads c.requires.may c.requires.may_hide c.hide_at.ensures.hides

pub returns-then-moved-clause-replaces : goal.returns-then-moved-clause-replaces
returns-then-moved-clause-replaces c =
    subst (λ (moved : Bool). Replaces (at_in c.args.tree.now) (name_at c.args.key.now) (name_at c.args.target.key) (name_at c.args.candidate.key) moved (at_in c.move_at.new.tree)) (sym c.if-moved.true)
    (replaced (at_in c.args.tree.now) (at_in c.hide_at.new.tree) c.hide_at.ensures.tree c.args.key.now c.args.target.key c.args.candidate.key c.requires.leads c.requires.may c.requires.may_hide c.hide_at.ensures.hides
    (at_in c.move_at.new.tree) c.move_at.ensures.moves c.move_at.ensures.exclusive)

pub returns-then-moved-clause-children : goal.returns-then-moved-clause-children
returns-then-moved-clause-children c =
    let s : ℕ → Type 0 = λ n. n ≡ c.args.key.now.parent in
    let t : ℕ → Type 0 = λ n. n ≡ c.args.target.key.parent in
    let h : ℕ → Type 0 = λ n. n ≡ c.args.candidate.key.parent in
    let first : (n : ℕ) → t n ⊎ h n → s n ⊎ (t n ⊎ h n) = λ n e. inr e in
    let second : (n : ℕ) → s n ⊎ t n → s n ⊎ (t n ⊎ h n) = λ n e. elim e [ inl a ↦ inl a | inr b ↦ inr (inl b) ] in
    replaced_children (at_in c.args.tree.now) (at_in c.hide_at.new.tree) c.hide_at.ensures.tree c.args.key.now c.args.target.key c.args.candidate.key c.requires.leads c.requires.may c.requires.may_hide c.hide_at.ensures.hides
    (at_in c.move_at.new.tree) c.move_at.ensures.moves c.move_at.ensures.exclusive
    (λ n. t n ⊎ h n) (λ n. s n ⊎ t n) (λ n. s n ⊎ (t n ⊎ h n)) first second c.hide_at.ensures.children c.move_at.ensures.children

pub returns-else-moved-clause-replaces : goal.returns-else-moved-clause-replaces
returns-else-moved-clause-replaces c =
    subst (λ (moved : Bool). Replaces (at_in c.args.tree.now) (name_at c.args.key.now) (name_at c.args.target.key) (name_at c.args.candidate.key) moved (at_in c.hide_at.new.tree)) (sym c.if-moved.false)
    (replaced_none (at_in c.args.tree.now) (at_in c.hide_at.new.tree) c.hide_at.ensures.tree c.args.key.now c.args.target.key c.args.candidate.key c.requires.leads c.requires.may c.requires.may_hide c.hide_at.ensures.hides)

pub returns-else-moved-clause-children : goal.returns-else-moved-clause-children
returns-else-moved-clause-children c =
    let s : ℕ → Type 0 = λ n. n ≡ c.args.key.now.parent in
    let h : ℕ → Type 0 = λ n. (n ≡ c.args.target.key.parent) ⊎ (n ≡ c.args.candidate.key.parent) in
    children_more (at_in c.args.tree.now) (at_in c.hide_at.new.tree) h (λ n. s n ⊎ h n) (λ n e. inr e) c.hide_at.ensures.children

pub returns-then-moved-clause-listed : goal.returns-then-moved-clause-listed
returns-then-moved-clause-listed c = listed_then c.args.tree.now c.hide_at.new.tree c.move_at.new.tree c.hide_at.ensures.listed c.move_at.ensures.listed
