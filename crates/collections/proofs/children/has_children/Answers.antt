use Rattle.std.proofs.Common.{◌≡◌, true, false, sym, ap, ◌∙◌, inl, inr}
use Rattle.std.proofs.lemmas.Bool.{cases_eq, eq-eqb, ne_eqb}
use Rattle.std.specs.Prelude.{not, Bool}
use Rattle.collections.specs.declared.children.Kin.{Kin}
use Rattle.collections.specs.Links.{kin_at}
use Rattle.collections.proofs.Linking.{childless}
use Rattle.collections.proofs.children.has_children.Goals as goal

pub returns-clause-yes : goal.returns-clause-yes
returns-clause-yes g c parents law h =
    let n = c.kin_in.result.newest in
    elim (cases_eq n 0) [
      | inl e ↦ let bad : false ≡ true = sym (ap (λ (b : Bool). not b) (eq-eqb n 0 e)) ∙ h in cc
      | inr some ↦ (n, (law.linked.newest n c.args.parent (ap (λ (k : Kin). k.newest) (sym c.kin_in.ensures)) some).0)
    ]

pub returns-clause-no : goal.returns-clause-no
returns-clause-no g c parents law h n stood =
    let newest = c.kin_in.result.newest in
    elim (cases_eq newest 0) [
      | inl e ↦ childless parents (kin_at c.args.nodes.now) law.rank law.linked c.args.parent (ap (λ (k : Kin). k.newest) (sym c.kin_in.ensures) ∙ e) n stood
      | inr some ↦ let bad : true ≡ false = sym (ap (λ (b : Bool). not b) (ne_eqb newest 0 some)) ∙ h in cc
    ]
