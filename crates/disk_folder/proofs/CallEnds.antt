-- What a call that ended so tells and counts.
use Rattle.std.proofs.Common.{ℕ, ℤ, Result, Ok, Err, ◌≡◌, ◌⊎◌, Bool, true, false, None, refl, sym, ap, ◌∙◌, subst, inl, inr, IfOk}
use Rattle.std.proofs.lemmas.Option.{none-some}
use Rattle.paths.specs.Prefixes.{Names}
use Rattle.path_cache.specs.Cache.{Cache, kept_at}
use Rattle.disk_folder.specs.declared.opened.Open.{Open}
use Rattle.disk_folder.specs.declared.open_cache.OpenCache.{OpenCache}
use Rattle.disk_folder.specs.Standing.{AllStand}
use Rattle.backing.specs.declared.call.Answer.{Answer}
use Rattle.backing.specs.declared.call.Answer.TheVariants.{Done, Fault}
use Rattle.backing.specs.declared.told.Told.{Told}
use Rattle.backing.specs.Tree.{Tree}
use Rattle.backing.specs.Calls.{Asked, Does}
use Rattle.backing.specs.Device.{Sound, Before as Early, Within as Part, After as Late, Counted, counted, one_if}
use Rattle.disk_folder.specs.declared.trouble.Trouble.{Trouble}
use Rattle.disk_folder.specs.declared.trouble.Trouble.TheVariants.{Refused, Failed}
use Rattle.disk_folder.specs.Ends.{Ends, Fails, Before, Within, After}
use Rattle.disk_folder.specs.Explained.{Follows, IsUnserved}
use Rattle.disk_folder.specs.Gives.{IsTold, IsUnlinked, is_granted}
use Rattle.disk_folder.specs.Troubles.{reason_errno}

counts_as : (before after : ℕ) (told failed : Bool) → after ≡ counted before (one_if told) → told ≡ failed → after ≡ counted before (one_if failed)
counts_as before after told failed count e = count ∙ ap (λ (b : Bool). counted before (one_if b)) e

-- the system failed
known_failed : (old new : Tree) (before after : ℕ) (call : Asked) (errno : ℤ) (answer : Answer) → answer ≡ Fault errno → after ≡ counted before 1 → Fails old call new → Counted None old before call answer new after
known_failed old new before after call errno answer is count (Before same) = (Early errno, (is, same), count)
known_failed old new before after call errno answer is count (Within passes part) = (Part errno, (is, passes, part), count)
known_failed old new before after call errno answer is count (After own works) = (Late errno, (is, (own, works)), count)

-- a refusal, whether or not it is told as a failure
known_refused : (old new : Tree) (before after : ℕ) (call : Asked) (errno : ℤ) (failed : Bool) (answer : Answer) → answer ≡ Fault errno → after ≡ counted before (one_if failed) → (new ≡ old) → ((answer ≡ Fault errno) → Counted None old before call answer new (counted before 0)) → Counted None old before call answer new after
known_refused old new before after call errno true answer is count same sound = (Early errno, (is, same), count)
known_refused old new before after call errno false answer is count same sound = subst (λ (n : ℕ). Counted None old before call answer new n) (sym count) (sound is)

pub known_of : (old new : Tree) (before after : ℕ) (call : Asked) (ended : Result Answer Trouble) (told : Told) (answer : Answer) → IsTold ended told → answer ≡ told.answer → after ≡ counted before (one_if told.failed) → Ends old call ended new → Counted None old before call answer new after
known_of old new before after call (Ok own) told answer is same count ends =
    (Sound, inl (ends.0, subst (λ (a : Answer). Does old call a new) (sym (same ∙ is.0)) ends.1), counts_as before after told.failed false count is.1)
known_of old new before after call (Err (Refused reason)) told answer is same count ends =
    known_refused old new before after call (reason_errno reason) told.failed answer (same ∙ is) count ends.1 (λ e. (Sound, inr (reason_errno reason, ends.0, e, ends.1), refl))
known_of old new before after call (Err (Failed errno)) told answer is same count ends =
    known_failed old new before after call errno answer (same ∙ is.0) (counts_as before after told.failed true count is.1) ends

no_fault : (errno : ℤ) → Done ≡ Fault errno → ⊥
no_fault errno e = cc

-- what holds of a call that is done
pub done_of : (P : Type 0) (ended : Result Answer Trouble) (told : Told) (answer : Answer) → IsTold ended told → answer ≡ told.answer → answer ≡ Done → IfOk ended (λ own. P) → P
done_of P (Ok own) told answer is same done holds = holds
done_of P (Err (Refused reason)) told answer is same done holds = absurd (no_fault (reason_errno reason) (sym done ∙ (same ∙ is)))
done_of P (Err (Failed errno)) told answer is same done holds = absurd (no_fault errno (sym done ∙ (same ∙ is.0)))

-- what is kept still stands where some of it was closed
pub stand_room : {H : Type 0} (at : Tree) (stands : H → Names → Type 0) (old new : OpenCache H) → ((p : Names) → (kept_at new.cache p ≡ kept_at old.cache p) ⊎ (kept_at new.cache p ≡ None)) → AllStand at stands old → AllStand at stands new
stand_room {H} at stands old new room all = record {
  each = λ p opened is. elim (room p) [
    | inl same ↦ all.each p opened (sym same ∙ is)
    | inr none ↦ absurd (none-some opened (sym none ∙ is))
  ];
}

pub stand_same : {H : Type 0} (at : Tree) (stands : H → Names → Type 0) (old new : OpenCache H) → new.cache ≡ old.cache → AllStand at stands old → AllStand at stands new
stand_same {H} at stands old new same all = record { each = λ p opened is. all.each p opened (sym (ap (λ (c : Cache (Open H)). kept_at c p) same) ∙ is) }

-- what is answered is what is told
pub follows_told : (call : Asked) (told : Told) (answer : Answer) → answer ≡ told.answer → Follows call told.failed told.answer → Follows call told.failed answer
follows_told call told answer same follows = subst (λ (a : Answer). Follows call told.failed a) (sym same) follows

pub unserved_told : (call : Asked) (told : Told) (answer : Answer) → answer ≡ told.answer → IsUnserved call told.failed told.answer → IsUnserved call told.failed answer
unserved_told call told answer same unserved = subst (λ (a : Answer). IsUnserved call told.failed a) (sym same) unserved

-- what was told is no LINK that was granted
pub unlinked : (call : Asked) (ended : Result Answer Trouble) (told : Told) (answer : Answer) → IsTold ended told → answer ≡ told.answer → is_granted call answer ≡ false → IsUnlinked call ended
unlinked call (Ok own) told answer is same none = subst (λ (a : Answer). is_granted call a ≡ false) (same ∙ is.0) none
unlinked call (Err trouble) told answer is same none = tt
