-- Handles of a plain map.
use Rattle.std.proofs.Common.{ℕ, ◌≡◌, ◌<◌, ◌≤◌, ◌-◌, suc, zero, List, [], ◌∷◌, ◌++◌, length, get_or, map, Option, Some, None, inl, inr, refl, sym, ap, ◌∙◌, arith, subst}
use Rattle.std.specs.Prelude.{is_some, slice_set, Result, Ok, Err, IfOk}
use Rattle.std.specs.Result.{result_ok}
use Rattle.std.specs.Borrow.{Bor}
use Rattle.std.specs.Option.{option_map}
use Rattle.std.proofs.Math.ListN.{get_or-append, get_or-map}
use Rattle.std.proofs.Math.Seq.{get_or-append_right, get_or-append_seam}
use Rattle.std.proofs.lemmas.Bool.{cases_eq, cases_lt}
use Rattle.std.proofs.lemmas.List.{get_or-set_other, get_or-set_same, length-map, map-append, map-set}
use Rattle.std.proofs.lemmas.Option.{none-some, same_Some}
use Rattle.handles.specs.Listings.{OpenFolder}
use Rattle.test_support.specs.Plain.{at, shown, BearTheirs}

past : (f : OpenFolder) (n : ℕ) → 0 < n → get_or (Some f ∷ []) n None ≡ None
past f zero more = absurd (omega (more, arith))
past f (suc n) more = refl

-- one that contains the next handle is stored
pub bears_put : (folders : List (Option OpenFolder)) (f : OpenFolder) → BearTheirs folders → f.fh ≡ length folders → BearTheirs (folders ++ Some f ∷ [])
bears_put folders f theirs next fh folder is = elim (cases_lt fh (length folders)) [
  | inl there ↦ theirs fh folder (sym (get_or-append folders (Some f ∷ []) None fh there) ∙ is)
  | inr beyond ↦ elim (cases_eq fh (length folders)) [
    | inl last ↦
        let same : Some f ≡ Some folder = sym (get_or-append_seam folders (Some f) [] None) ∙ (ap (λ (n : ℕ). at (folders ++ Some f ∷ []) n) (sym last) ∙ is) in
        sym (ap (λ (g : OpenFolder). g.fh) (same_Some f folder same)) ∙ (next ∙ sym last)
    | inr other ↦ absurd (none-some folder (sym (past f (fh - length folders) (omega arith)) ∙ (sym (get_or-append_right folders (Some f ∷ []) fh None beyond) ∙ is)))
  ]
]

-- one is closed
pub bears_less : (folders : List (Option OpenFolder)) (i : ℕ) → i < length folders → BearTheirs folders → BearTheirs (slice_set folders i None)
bears_less folders i within theirs fh folder is = elim (cases_eq fh i) [
  | inl same ↦ absurd (none-some folder (sym (get_or-set_same folders i None None within) ∙ (ap (λ (n : ℕ). at (slice_set folders i None) n) (sym same) ∙ is)))
  | inr other ↦ theirs fh folder (sym (get_or-set_other folders i fh None None other) ∙ is)
]

-- ---- of what is kept

pub at_shown : (kept : List (Option (Bor OpenFolder))) (folders : List (Option OpenFolder)) (fh : ℕ) (entry : Option (Bor OpenFolder)) → shown kept ≡ folders → entry ≡ get_or kept fh None → at folders fh ≡ option_map (λ folder. folder.now) entry
at_shown kept folders fh entry view is = ap (λ (fs : List (Option OpenFolder)). at fs fh) (sym view) ∙ (get_or-map (option_map (λ folder. folder.now)) kept fh None ∙ ap (option_map (λ folder. folder.now)) (sym is))

pub shown_put : (kept : List (Option (Bor OpenFolder))) (folder : Bor OpenFolder) → BearTheirs (shown kept) → folder.now.fh ≡ length kept → BearTheirs (shown (kept ++ Some folder ∷ []))
shown_put kept folder theirs next = rw (map-append (option_map (λ f. f.now)) kept (Some folder ∷ [])) (bears_put (shown kept) folder.now theirs (next ∙ sym (length-map kept (option_map (λ f. f.now)))))

pub shown_less : (kept : List (Option (Bor OpenFolder))) (i : ℕ) → i < length kept → BearTheirs (shown kept) → BearTheirs (shown (slice_set kept i None))
shown_less kept i within theirs = rw (map-set (option_map (λ f. f.now)) kept i None) (bears_less (shown kept) i (let n = length-map kept (option_map (λ f. f.now)) in omega (n, within, arith)) theirs)

pub some_shown : (entry : Option (Bor OpenFolder)) → is_some (option_map (λ folder. folder.now) entry) ≡ is_some entry
some_shown None = refl
some_shown (Some folder) = refl

pub when_ok : {A E : Type 0} (r : Result A E) (a : A) (P : A → Type 0) → Some a ≡ result_ok r → IfOk r P → P a
when_ok (Ok b) a P is h = subst P (sym (same_Some a b is)) h
when_ok (Err e) a P is h = absurd (none-some a (sym is))
