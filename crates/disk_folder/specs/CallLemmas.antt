-- What a folder's calls say of its count of failures.
use Rattle.std.proofs.Common.{ℕ, ◌≡◌, Bool, true, false, ◌∙◌, inl, inr}
use Rattle.backing.specs.declared.call.Answer.{Answer}
use Rattle.backing.specs.Calls.{Asked}
use Rattle.backing.specs.Device.{Counts, counted, one_if}
use Rattle.backing.specs.KnownTreeLemmas.{counted_none}
use Rattle.disk_folder.specs.Explained.{Follows, Tells}

told_counts : (before after : ℕ) (call : Asked) (failed : Bool) (answer : Answer) → Follows call failed answer → after ≡ counted before (one_if failed) → Counts before answer after
told_counts before after call false answer told count = inl (count ∙ counted_none before)
told_counts before after call true answer told count = inr (count, told)

pub gives_counts : (before after : ℕ) (call : Asked) (answer : Answer) → Tells before call answer after → Counts before answer after
gives_counts before after call answer tells = told_counts before after call tells.failed answer tells.told tells.count
