-- Open files as a list with rising handles.
use Rattle.std.proofs.Common.{ℕ, ◌+◌, ◌<◌, ◌≤◌, ◌≡◌, ◌≢◌, ◌==◌, ◌||◌, Bool, cond, nat_lt, List, [], ◌∷◌, Some, None, Vec, length, get_or, refl, sym, ap, ◌∙◌, subst, inl, inr, arith}
use Rattle.std.specs.List.{list_any}
use Rattle.std.specs.Prelude.{AllPairs, count_by, sum_by}
use Rattle.std.specs.List.Sorted.{IsPartitionedBy}
use Rattle.std.proofs.lemmas.Bool.{cases_Bool, cases_eq, cases_lt, eq-eqb, eqb-true, lt-ltb, ltb-true}
use Rattle.std.proofs.lemmas.List.Folds.{Any-from_list_any, list_any_at}
use Rattle.std.proofs.lemmas.List.Sums.{sum_by-cons}
use Rattle.std.specs.declared.alloc.Global.{Global}
use Rattle.collections.specs.Sum.{IsSum}
use Rattle.collections.proofs.Keyed.{HaveOwnKeys, found_at, not_found, sum_found, where_found}
use Rattle.table_files.specs.declared.data.OpenFile.{OpenFile}
use Rattle.table_files.specs.declared.listed.OpenEntry.{OpenEntry}
use Rattle.table_files.specs.Handles.{AreOpenEntries, of_node}
use Rattle.table_files.specs.Counts.{openings_in}
use Rattle.table_files.specs.declared.counts.OpenCounts.{OpenCounts}
use Rattle.table_files.specs.OpenEntry.{Filing, IsFiled, IsNumbered, file_in, files_of, filing, opened_in}

abbrev pub key : OpenEntry → ℕ
key f = f.handle

abbrev pub value : OpenEntry → OpenFile
value f = f.file

-- rising handles are distinct
pub apart : (fs : List OpenEntry) (last : ℕ) → IsNumbered fs last → HaveOwnKeys key value fs
apart fs last numbered i j d before within e = let less = numbered.rising i j d before within in omega (arith, less, e)

-- each file in the list is found under its handle
pub listed_at : (fs : List OpenEntry) → AllPairs (λ (f g : OpenEntry). f.handle < g.handle) fs → (k : ℕ) (d : OpenEntry) → k < length fs → file_in fs (get_or fs k d).handle ≡ Some (get_or fs k d).file
listed_at fs rising k d within = found_at key value fs k d (λ i j e before last same. let less = rising i j e before last in omega (arith, less, same)) within

-- the handle has no file if all before the index are smaller and the one there is another
pub not_there : (fs : List OpenEntry) (i handle : ℕ) → AllPairs (λ (f g : OpenEntry). f.handle < g.handle) fs
    → ((k : ℕ) (d : OpenEntry) → k < i → (get_or fs k d).handle < handle) → ((k : ℕ) (d : OpenEntry) → i ≤ k → k < length fs → handle ≤ (get_or fs k d).handle)
    → (i < length fs → (d : OpenEntry) → (get_or fs i d).handle ≢ handle) → file_in fs handle ≡ None
not_there fs i handle rising below above other = not_found key value fs handle (λ j d within e. elim (cases_lt j i) [
  | inl before ↦ let less = below j d before in absurd (omega (arith, less, e))
  | inr later ↦ elim (cases_eq j i) [
    | inl same ↦ other (omega (arith, same, within)) d (ap (λ k. (get_or fs k d).handle) (sym same) ∙ e)
    | inr behind ↦
        let least = above i d (omega arith) (omega (arith, within)) in
        let less = rising i j d (omega arith) within in
        absurd (omega (arith, least, less, e))
  ]
])

-- rising handles split into those below a handle and those from it on
pub parted : (fs : List OpenEntry) (handle : ℕ) → AllPairs (λ (f g : OpenEntry). f.handle < g.handle) fs → IsPartitionedBy (λ (f : OpenEntry). nat_lt f.handle handle) fs
parted fs handle rising i j d order within less = elim (cases_eq i j) [
  | inl same ↦ ap (λ k. nat_lt (get_or fs k d).handle handle) same ∙ less
  | inr other ↦ let up = rising i j d (omega arith) within in let low = ltb-true (get_or fs j d).handle handle less in lt-ltb (get_or fs i d).handle handle (omega (arith, up, low))
]

-- a handle that was not used yet leads to no file
pub fresh : (fs : List OpenEntry) (last : ℕ) → IsNumbered fs last → file_in fs (last + 1) ≡ None
fresh fs last numbered = not_found key value fs (last + 1) (λ j d within e. let given = (numbered.given j d within).1 in absurd (omega (arith, given, e)))

one_each : (fs : List OpenEntry) → sum_by (λ (f : OpenEntry). 1) fs ≡ length fs
one_each [] = refl
one_each (f ∷ fs) = let more = one_each fs in omega (arith, more, sum_by-cons (λ (g : OpenEntry). 1) f fs)

listed : (fs : List OpenEntry) (last room : ℕ) → IsNumbered fs last → AreOpenEntries (files_of (record { files = fs; last = last; room = room }))
unfolding files_of
listed fs last room numbered = record {
  given = λ handle file there.
      let it = where_found key value fs handle file there in
      let d : OpenEntry = record { handle = handle; file = file } in
      subst (λ (h : ℕ). (0 < h) × (h ≤ last)) (it.2 d).0 (numbered.given it.0 d it.1);
  opens = λ number. (
    λ h. let it = Any-from_list_any (λ (f : OpenEntry). f.file.number == number) fs h in record {
      handle = it.1.handle;
      file = it.1.file;
      here = subst (λ (f : OpenEntry). file_in fs f.handle ≡ Some f.file) it.3 (found_at key value fs it.0 it.1 (apart fs last numbered) it.2);
      node = eqb-true it.1.file.number number it.4;
    },
    λ h.
        let it = where_found key value fs h.handle h.file h.here in
        let d : OpenEntry = record { handle = h.handle; file = h.file } in
        list_any_at (λ (f : OpenEntry). f.file.number == number) fs it.0 d it.1 (ap (λ (f : OpenFile). f.number == number) (it.2 d).1 ∙ eq-eqb h.file.number number h.node),
  );
  many = subst (λ n. IsSum (file_in fs) (λ (f : OpenFile). 1) n) (one_each fs) (sum_found key value fs (λ (f : OpenFile). 1) (apart fs last numbered));
}

pub are_entries_kept : (v : Vec OpenEntry Global) (last room : ℕ) → IsNumbered v.items last → AreOpenEntries (files_of (filing v last room))
are_entries_kept v last room numbered = listed v.items last room numbered

pub are_entries : (v : Vec OpenEntry Global) (counts : OpenCounts) (last room : ℕ) (all : Filing) → IsFiled v counts last room → filing v last room ≡ all → AreOpenEntries (files_of all)
are_entries v counts last room all filed is = subst (λ (a : Filing). AreOpenEntries (files_of a)) is (are_entries_kept v last room filed.numbered)

pub openings_listed : (v : Vec OpenEntry Global) (counts : OpenCounts) (last room : ℕ) (all : Filing) (number n : ℕ) → IsFiled v counts last room → filing v last room ≡ all → n ≡ openings_in counts.by_number number
    → IsSum (files_of all).at (of_node number) n
unfolding files_of
openings_listed v counts last room all number n filed is e =
    subst (λ (a : Filing). IsSum (file_in a.files) (of_node number) n) is
    (subst (λ (t : ℕ). IsSum (file_in v.items) (of_node number) t) (sym (e ∙ filed.counted number)) (sum_found key value v.items (of_node number) (apart v.items last filed.numbered)))

-- some element passes a test exactly if more than none are counted that pass it
pub any_counted : {X : Type 0} (p : X → Bool) (xs : List X) → nat_lt 0 (count_by p xs) ≡ list_any p xs
any_counted p [] = refl
any_counted p (x ∷ xs) =
    let all : count_by p (x ∷ xs) ≡ cond (p x) 1 0 + count_by p xs = sum_by-cons (λ y. cond (p y) 1 0) x xs in
    elim (cases_Bool (p x)) [
      | inl hit ↦
          let one : ◌≡◌ {A = ℕ} (cond (p x) 1 0) 1 = ap (λ b. cond b 1 0) hit in
          lt-ltb 0 (count_by p (x ∷ xs)) (omega (arith, all, one)) ∙ sym (ap (λ b. b || list_any p xs) hit)
      | inr miss ↦
          let none : ◌≡◌ {A = ℕ} (cond (p x) 1 0) 0 = ap (λ b. cond b 1 0) miss in
          let rest : count_by p (x ∷ xs) ≡ count_by p xs = omega (arith, all, none) in
          ap (nat_lt 0) rest ∙ (any_counted p xs ∙ sym (ap (λ b. b || list_any p xs) miss))
    ]

pub opened_listed : (v : Vec OpenEntry Global) (counts : OpenCounts) (last room : ℕ) (all : Filing) (number n : ℕ) → IsFiled v counts last room → filing v last room ≡ all → n ≡ openings_in counts.by_number number
    → nat_lt 0 n ≡ (files_of all).opened number
unfolding files_of
opened_listed v counts last room all number n filed is e =
    subst (λ (a : Filing). nat_lt 0 n ≡ opened_in a.files number) is (ap (nat_lt 0) (e ∙ filed.counted number) ∙ any_counted (λ (f : OpenEntry). f.file.number == number) v.items)
