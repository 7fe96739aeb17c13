use Rattle.std.proofs.Common.{sym, ◌∙◌, inl, inr}
use Rattle.std.proofs.lemmas.Bool.{cases_Bool, false≢true}
use Rattle.paths.proofs.PrefixLemmas.{is_name-yes, is_name-no}
use Rattle.laws.proofs.object_disk.one_file.are_same.Goals as goal

pub returns : goal.returns
returns c = elim (cases_Bool c.is.result) [
  | inl h ↦ h ∙ sym (is_name-yes c.args.name.now c.args.other.now (c.is.ensures.0 h))
  | inr h ↦ h ∙ sym (is_name-no c.args.name.now c.args.other.now (λ e. false≢true (sym h ∙ c.is.ensures.1 e)))
]
