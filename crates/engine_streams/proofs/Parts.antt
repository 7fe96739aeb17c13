-- Bytes that are written in parts.
use Rattle.std.proofs.Common.{ℕ, ◌≡◌, ◌≤◌, ◌+◌, ◌-◌, List, length, take, drop, Option, Some, None, sym, subst, ap, ◌∙◌, arith}
use Rattle.std.proofs.Math.Seq.{take-add}
use Rattle.std.proofs.lemmas.List.{take_rest, length-drop, take_all}
use Rattle.std.proofs.KnownBytes.{Appends-trans}
use Rattle.std.specs.Io.KnownBytes.{Appends, Keeps}
use Rattle.engine_streams.specs.Writing.{AppendsFirst, AppendsPart}

-- what was appended does not change if nothing is done
pub kept_on : (old mid new : Option (List ℕ)) (xs : List ℕ) → Appends old mid xs → Keeps mid new → Appends old new xs
kept_on None mid new xs first kept = tt
kept_on (Some a) None new xs first kept = absurd first
kept_on (Some a) (Some b) None xs first kept = absurd kept
kept_on (Some a) (Some b) (Some c) xs first kept = kept ∙ first

-- one more part
pub part_on : (old mid new : Option (List ℕ)) (written count all : ℕ) (bytes : List ℕ) → AppendsFirst written old mid bytes → all ≡ written + count → count ≤ length (take (length bytes - written) (drop written bytes))
    → Appends mid new (take count (take (length bytes - written) (drop written bytes))) → AppendsFirst all old new bytes
part_on old mid new written count all bytes far is fits more =
    let rest = take_rest bytes written in
    let length_is : length (drop written bytes) ≡ length bytes - written = length-drop written bytes in
    let fits_rest : count ≤ length bytes - written = rw (sym length_is) (rw (sym (ap (λ (xs : List ℕ). length xs) rest)) fits) in
    let within = far.within in
    let more_rest : Appends mid new (take count (drop written bytes)) = subst (λ (xs : List ℕ). Appends mid new (take count xs)) rest more in
    record {
      within = rw is (omega arith);
      appended = subst (λ (n : ℕ). Appends old new (take n bytes)) (sym is) (subst (λ (xs : List ℕ). Appends old new xs) (sym (take-add written count bytes)) (Appends-trans old mid new (take written bytes) (take count (drop written bytes)) far.appended more_rest));
    }

-- nothing more
pub part_kept : (old mid new : Option (List ℕ)) (written same : ℕ) (bytes : List ℕ) → AppendsFirst written old mid bytes → same ≡ written → Keeps mid new → AppendsFirst same old new bytes
part_kept old mid new written same bytes far is kept = record {
  within = rw is far.within;
  appended = subst (λ (n : ℕ). Appends old new (take n bytes)) (sym is) (kept_on old mid new (take written bytes) far.appended kept);
}

-- all, and nothing more
pub all_kept : (old mid new : Option (List ℕ)) (bytes : List ℕ) → Appends old mid bytes → Keeps mid new → AppendsFirst (length bytes) old new bytes
all_kept old mid new bytes all kept = let n = length bytes in record {
  within = omega arith;
  appended = subst (λ (xs : List ℕ). Appends old new xs) (sym (take_all n bytes (omega arith))) (kept_on old mid new bytes all kept);
}

-- all of them are a first part of them
pub whole_part : (old new : Option (List ℕ)) (bytes : List ℕ) → Appends old new bytes → AppendsPart old new bytes
whole_part old new bytes whole = let n = length bytes in (n, subst (λ (xs : List ℕ). Appends old new xs) (sym (take_all n bytes (omega arith))) whole)
