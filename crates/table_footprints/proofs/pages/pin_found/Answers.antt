use Rattle.std.proofs.Common.{Some, sym, ap, ◌∙◌, inl, inr}
use Rattle.std.proofs.lemmas.Option.{none-some, same_Some}
use Rattle.table_footprints.proofs.Members.{contains_push}
use Rattle.table_footprints.proofs.pages.pin_found.Goals as goal

pub returns-in-Some-clause-pins : goal.returns-in-Some-clause-pins
returns-in-Some-clause-pins c n =
    let it = contains_push c.args.pins.now.numbers c.in-Some.node n in
    rw c.add.ensures (
      λ h. elim (it.0 h) [ inl before ↦ inl before | inr e ↦ inr (c.in-Some.is ∙ ap (λ k. Some k) e) ],
      λ h. it.1 (elim h [ inl before ↦ inl before | inr e ↦ inr (same_Some c.in-Some.node n (sym c.in-Some.is ∙ e)) ]),
    )

pub returns-in-None-clause-pins : goal.returns-in-None-clause-pins
returns-in-None-clause-pins c n = (
  λ h. inl h,
  λ h. elim h [ inl before ↦ before | inr e ↦ absurd (none-some n (sym c.in-None.is ∙ e)) ],
)
