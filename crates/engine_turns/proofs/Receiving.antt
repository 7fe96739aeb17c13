-- What a receive brought, and what is kept from it.
use Rattle.std.proofs.Common.{◌≡◌, ℕ, ◌+◌, ◌↔◌, Bool, List, [], ◌++◌, take, drop, Option, Some, None, IfSome, IfNone, Result, Ok, Err, IfOk, inl, inr, refl, sym, ap, ◌∙◌, subst}
use Rattle.std.proofs.Math.Logic.{∥∥₁_map}
use Rattle.std.proofs.Math.Seq.{take-add}
use Rattle.std.proofs.lemmas.List.{drop-drop, drop-take}
use Rattle.engine.specs.Links.{Heard, Piece}
use Rattle.engine.specs.declared.ends.SessionEnd.{SessionEnd}
use Rattle.wire.specs.Stream.{BeginsBadly, Cutting, HandsOut, IsPartial, StoppedBy}
use Rattle.wire.specs.declared.cutter.CutFault.{CutFault}
use Rattle.wire.specs.declared.cutter.CutFault.TheVariants as fault
use Rattle.engine_turns.specs.Verdicts.{KeepsNone, Progress, Queued, QueuesAll, Reads, and_then, with_unkept}

-- the bytes behind the gap, where all up to there are the same
pub behind_same : (old new : List ℕ) (gap from : ℕ) → take (gap + from) new ≡ take (gap + from) old → take from (drop gap new) ≡ take from (drop gap old)
behind_same old new gap from same = sym (drop-take gap from new) ∙ (ap (λ (bytes : List ℕ). drop gap bytes) same ∙ drop-take gap from old)

-- they are followed by those that came after them
pub behind_grown : (old new : List ℕ) (gap from count : ℕ) → take (gap + from) new ≡ take (gap + from) old → take (from + count) (drop gap new) ≡ take from (drop gap old) ++ take count (drop (gap + from) new)
behind_grown old new gap from count same =
    take-add from count (drop gap new)
    ∙ (ap (λ (bytes : List ℕ). bytes ++ take count (drop from (drop gap new))) (behind_same old new gap from same)
    ∙ ap (λ (bytes : List ℕ). take from (drop gap old) ++ take count bytes) (drop-drop from gap new))

-- a cutter that returned something, or took bytes, was not stopped
pub not_stopped : {A : Type 0} (k k' : Cutting) (told : A) (r : Result A CutFault) → r ≡ Ok told → ((len : ℕ) → (r ≡ Err (fault.BadLength len)) ↔ BeginsBadly k.kept len) → k'.stopped ≡ k.stopped → ∥ StoppedBy k.kept k.stopped ∥₁ → ∥ StoppedBy k'.kept k'.stopped ∥₁
not_stopped k k' told r ok bad same by = ∥∥₁_map by (by_case k.stopped refl) where
  by_case : (o : Option ℕ) → k.stopped ≡ o → StoppedBy k.kept o → StoppedBy k'.kept k'.stopped
  by_case None none by = subst (λ (o : Option ℕ). StoppedBy k'.kept o) (sym (same ∙ none)) tt
  by_case (Some len) some by = absurd (cc (sym ok ∙ (bad len).1 by))

pub not_refused : {A : Type 0} (k k' : Cutting) (told : A) (r : Result A CutFault) → r ≡ Ok told → ((len : ℕ) → (r ≡ Err (fault.BadLength len)) ↔ (k.stopped ≡ Some len)) → k'.stopped ≡ k.stopped → ∥ StoppedBy k'.kept k'.stopped ∥₁
not_refused k k' told r ok bad same = ∣ by_case k.stopped refl ∣₁ where
  by_case : (o : Option ℕ) → k.stopped ≡ o → StoppedBy k'.kept k'.stopped
  by_case None none = subst (λ (o : Option ℕ). StoppedBy k'.kept o) (sym (same ∙ none)) tt
  by_case (Some len) some = absurd (cc (sym ok ∙ (bad len).1 some))

-- one that is stopped met a length that no frame may have
pub met_bad : (k : Cutting) (len : ℕ) → k.stopped ≡ Some len → ∥ StoppedBy k.kept k.stopped ∥₁ → ∥ BeginsBadly k.kept len ∥₁
met_bad k len some by = subst (λ (o : Option ℕ). ∥ StoppedBy k.kept o ∥₁) some by

-- one that has just met such a length
pub stopped_so : (k k' : Cutting) (len : ℕ) → BeginsBadly k.kept len → k' ≡ record k { stopped = Some len } → ∥ StoppedBy k'.kept k'.stopped ∥₁
stopped_so k k' len bad is = subst (λ (c : Cutting). ∥ StoppedBy c.kept c.stopped ∥₁) (sym is) ∣ bad ∣₁

-- whatever a cutter answered when it was asked for the next frame
pub stopped_after : {F : Type 0} (items : F → List ℕ) (k k' : Cutting) (r : Result (Option F) CutFault) → IfOk r (λ o. IfSome o (λ f. HandsOut k (items f) k')) → IfOk r (λ o. IfNone o (IsPartial k.kept × (k' ≡ k)))
    → ((len : ℕ) → (r ≡ Err (fault.BadLength len)) ↔ BeginsBadly k.kept len) → ((len : ℕ) → r ≡ Err (fault.BadLength len) → k' ≡ record k { stopped = Some len }) → (r ≡ Err fault.Memory → k' ≡ k)
    → ∥ StoppedBy k.kept k.stopped ∥₁ → ∥ StoppedBy k'.kept k'.stopped ∥₁
stopped_after items k k' (Ok (Some f)) frame none bad for_good memory by = not_stopped k k' (Some f) (Ok (Some f)) refl bad frame.stopped by
stopped_after items k k' (Ok None) frame none bad for_good memory by = subst (λ (c : Cutting). ∥ StoppedBy c.kept c.stopped ∥₁) (sym none.1) by
stopped_after items k k' (Err (fault.BadLength len)) frame none bad for_good memory by = stopped_so k k' len ((bad len).0 refl) (for_good len refl)
stopped_after items k k' (Err fault.Memory) frame none bad for_good memory by = subst (λ (c : Cutting). ∥ StoppedBy c.kept c.stopped ∥₁) (sym (memory refl)) by

-- bytes were received
module _ {L : Type 0} (receives : L → Heard → L → Type 0) (link link' : L) (old new : Progress) (end : Option SessionEnd) (bytes : List ℕ) (brought : receives link (Piece bytes) link') where
  pub reads_all : (before : Progress) → before ≡ and_then old bytes → QueuesAll before end new → Reads receives (record { link = link; so_far = old }) end (record { link = link'; so_far = new })
  reads_all before same all = record { heard = Piece bytes; brought = brought; reads = inl (subst (λ (p : Progress). QueuesAll p end new) same all) }

  pub keeps_none : KeepsNone old.kept end → new ≡ with_unkept old bytes → Reads receives (record { link = link; so_far = old }) end (record { link = link'; so_far = new })
  keeps_none why is = record { heard = Piece bytes; brought = brought; reads = inr (why, is) }

-- all that came is kept, or only what was kept before
module _ (agreed : Bool) (put : List Queued) (last_job handed_back : Option Queued) where
  abbrev pub got : (kept unkept : List ℕ) → Progress
  got kept unkept = record { kept = kept; unkept = unkept; agreed = agreed; put = put; last_job = last_job; handed_back = handed_back }

  pub same_kept : (kept unkept unkept' : List ℕ) → unkept' ≡ unkept → got kept unkept' ≡ got kept unkept
  same_kept kept unkept unkept' same = ap (λ (us : List ℕ). got kept us) same

  pub all_kept : (kept kept' unkept grown bytes : List ℕ) → kept' ≡ kept ++ grown → grown ≡ unkept ++ bytes → got kept' [] ≡ and_then (got kept unkept) bytes
  all_kept kept kept' unkept grown bytes k g = ap (λ (ks : List ℕ). got ks []) (k ∙ ap (λ (bs : List ℕ). kept ++ bs) g)

  pub none_kept : (kept kept' unkept grown bytes : List ℕ) → kept' ≡ kept → grown ≡ unkept ++ bytes → got kept' grown ≡ with_unkept (got kept unkept) bytes
  none_kept kept kept' unkept grown bytes k g = ap (λ (ks : List ℕ). got ks grown) k ∙ ap (λ (us : List ℕ). got kept us) g
