-- Each step on open files, in terms of the list.
use Rattle.std.proofs.Common.{ℕ, ◌+◌, ◌-◌, ◌<◌, ◌≤◌, ◌≡◌, ◌==◌, ◌||◌, Bool, true, false, List, [], ◌∷◌, ◌++◌, Some, Vec, All, length, get_or, refl, sym, ap, ◌∙◌, subst, inl, inr, arith}
use Rattle.std.specs.List.{list_any, remove}
use Rattle.std.proofs.lemmas.Bool.{cases_lt}
use Rattle.std.proofs.lemmas.List.{length-append}
use Rattle.std.proofs.lemmas.List.Edits.{get_or-remove_above, get_or-remove_below, length-remove}
use Rattle.std.proofs.lemmas.List.Elements.{All-push}
use Rattle.std.proofs.lemmas.List.Folds.{list_any-append}
use Rattle.std.proofs.lemmas.List.Quantifiers.{all_pairs_push, all_pairs_remove}
use mathlib.Core.Path.{fun_ext}
use Rattle.std.specs.declared.alloc.Global.{Global}
use Rattle.collections.proofs.Keyed.{found_at, found-push, found-remove}
use Rattle.table_files.specs.declared.data.Access.TheVariants.{Both}
use Rattle.table_files.specs.declared.data.OpenFile.{OpenFile}
use Rattle.table_files.specs.declared.listed.OpenEntry.{OpenEntry}
use Rattle.table_files.specs.Handles.{Files, Opened, after_close, after_open, without_file}
use Rattle.table_files.specs.OpenEntry.{Filing, IsNumbered, file_in, files_of, filing}
use Rattle.table_files.proofs.Listing.{apart, fresh, key, value}

-- equal if all fields are equal
same_opened : (at at' : Files) (opened opened' : ℕ → Bool) (many many' last room room' : ℕ) → at ≡ at' → opened ≡ opened' → many ≡ many' → room ≡ room'
    → (let a : Opened = record { at = at; opened = opened; many = many; last = last; room = room } in a) ≡ (record { at = at'; opened = opened'; many = many'; last = last; room = room' })
same_opened at at' opened opened' many many' last room room' a o m r =
    ap (λ (x : Files). let y : Opened = record { at = x; opened = opened; many = many; last = last; room = room } in y) a
    ∙ (ap (λ (x : ℕ → Bool). let y : Opened = record { at = at'; opened = x; many = many; last = last; room = room } in y) o
    ∙ (ap (λ (x : ℕ). let y : Opened = record { at = at'; opened = opened'; many = x; last = last; room = room } in y) m
    ∙ ap (λ (x : ℕ). let y : Opened = record { at = at'; opened = opened'; many = many'; last = last; room = x } in y) r))

or_none : (a : Bool) → (a || false) ≡ a
or_none true = refl
or_none false = refl

-- a file is opened under the next handle
pub opened_listed : (v w : Vec OpenEntry Global) (last room : ℕ) (all : Filing) (file : OpenFile) → IsNumbered v.items last → filing v last room ≡ all
    → w.items ≡ v.items ++ record { handle = last + 1; file = file } ∷ [] → files_of (filing w (last + 1) (room - 1)) ≡ after_open (files_of all) file
unfolding files_of
opened_listed v w last room all file numbered is items =
    let fs = v.items in
    let filed : OpenEntry = record { handle = last + 1; file = file } in
    let node : ℕ → OpenEntry → Bool = λ number f. f.file.number == number in
    subst (λ (a : Filing). files_of (filing w (last + 1) (room - 1)) ≡ after_open (files_of a) file) is (same_opened _ _ _ _ _ _ _ _ _
    (ap file_in items ∙ found-push key value fs filed (fresh fs last numbered))
    (fun_ext (λ number. ap (list_any (node number)) items ∙ (list_any-append (node number) fs (filed ∷ []) ∙ ap (λ c. list_any (node number) fs || c) (or_none (file.number == number)))))
    (ap length items ∙ length-append fs (filed ∷ []))
    refl)

pub IsNumbered-push : (fs : List OpenEntry) (last : ℕ) (file : OpenFile) → IsNumbered fs last → IsNumbered (fs ++ record { handle = last + 1; file = file } ∷ []) (last + 1)
IsNumbered-push fs last file numbered =
    let filed : OpenEntry = record { handle = last + 1; file = file } in
    record {
      rising = all_pairs_push (λ (f g : OpenEntry). f.handle < g.handle) fs filed numbered.rising (λ k d within. let given = (numbered.given k d within).1 in omega (arith, given));
      given = All-push (λ (f : OpenEntry). (0 < f.handle) × (f.handle ≤ last + 1)) fs filed (λ k d within. let given = numbered.given k d within in (given.0, omega (arith, given.1))) (omega arith, omega arith);
    }

-- what holds of all elements holds of those that remain
All-remove : {X : Type 0} (P : X → Type 0) (xs : List X) (i : ℕ) → i < length xs → All P xs → All P (remove xs i)
All-remove P xs i inside all k d within =
    let shorter = length-remove xs i inside in
    elim (cases_lt k i) [
      | inl before ↦ subst P (sym (get_or-remove_below xs i d k before inside)) (all k d (omega arith))
      | inr later ↦ subst P (sym (get_or-remove_above xs i d k later inside)) (all (k + 1) d (omega arith))
    ]

module _ (fs : List OpenEntry) (last i handle : ℕ) (numbered : IsNumbered fs last) (within : i < length fs) (there : (d : OpenEntry) → (get_or fs i d).handle ≡ handle) where
  some_filed : OpenEntry
  some_filed = record { handle = handle; file = record { number = 0; generation = 0; access = Both } }

  pub looked_up : file_in (remove fs i) ≡ without_file (file_in fs) handle
  looked_up = found-remove key value fs i some_filed (apart fs last numbered) within ∙ ap (without_file (file_in fs)) (there some_filed)

  -- the file at that index is found
  pub file_there : (d : OpenEntry) → Some (get_or fs i d).file ≡ file_in fs handle
  file_there d = sym (found_at key value fs i d (apart fs last numbered) within) ∙ ap (file_in fs) (there d)

  counted : (gs : List OpenEntry) → gs ≡ remove fs i → length gs ≡ length fs - 1
  counted gs is = let shorter = length-remove fs i within in omega (arith, shorter, ap length is)

  handed : (gs : List OpenEntry) → gs ≡ remove fs i → file_in gs ≡ without_file (file_in fs) handle
  handed gs is = ap file_in is ∙ looked_up

  pub IsNumbered-remove : IsNumbered (remove fs i) last
  IsNumbered-remove = record {
    rising = all_pairs_remove (λ (f g : OpenEntry). f.handle < g.handle) fs i within numbered.rising;
    given = All-remove (λ (f : OpenEntry). (0 < f.handle) × (f.handle ≤ last)) fs i within numbered.given;
  }

module _ (v : Vec OpenEntry Global) (last room : ℕ) (all : Filing) (i handle : ℕ) (numbered : IsNumbered v.items last) (is : filing v last room ≡ all) (within : i < length v.items) (there : (d : OpenEntry) → (get_or v.items i d).handle ≡ handle) where
  -- the file under the handle is closed
  pub closed_listed : (w : Vec OpenEntry Global) → w.items ≡ remove v.items i → files_of (filing w last (room + 1)) ≡ after_close (files_of all) handle (files_of (filing w last (room + 1))).opened
  unfolding files_of
  closed_listed w items =
      subst (λ (a : Filing). files_of (filing w last (room + 1)) ≡ after_close (files_of a) handle (files_of (filing w last (room + 1))).opened) is
      (same_opened _ _ _ _ _ _ _ _ _ (handed v.items last i handle numbered within there w.items items) refl (counted v.items last i handle numbered within there w.items items) refl)

  -- the file at that index is the one open under the handle
  pub file_closed : (f : OpenEntry) → f ≡ get_or v.items i f → Some f.file ≡ (files_of all).at handle
  unfolding files_of
  file_closed f e =
      subst (λ (a : Filing). Some f.file ≡ (files_of a).at handle) is (ap (λ (g : OpenEntry). Some g.file) e ∙ file_there v.items last i handle numbered within there f)
