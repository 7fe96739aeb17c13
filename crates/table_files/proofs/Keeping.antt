-- Each step keeps the files counted and the room.
use Rattle.std.proofs.Common.{ℕ, ◌+◌, ◌-◌, ◌*◌, ◌<◌, ◌≤◌, ◌≡◌, ◌==◌, if◌then◌else◌, nat_eq, List, [], ◌∷◌, ◌++◌, Vec, vec_len, vec_capacity, cond, length, get_or, Option, refl, sym, ap, ◌∙◌, subst, arith}
use Rattle.std.specs.Prelude.{unwrap_or}
use Rattle.std.specs.List.{remove}
use mathlib.Core.Path.{fun_ext}
use Rattle.std.proofs.lemmas.Bool.{cond-true, eq-eqb}
use Rattle.std.proofs.lemmas.List.{get_or_default}
use Rattle.std.proofs.lemmas.List.Sums.{count_by-le-length, sum_by-remove, sum_by_push}
use Rattle.std.specs.declared.alloc.Global.{Global}
use Rattle.std.specs.Map.{lookup}
use Rattle.indexmap.specs.IndexMap.{IndexMap, IsUnchanged}
use Rattle.collections.specs.Living.{found, joined, living, places}
use Rattle.collections.specs.Sum.{IsSum}
use Rattle.table_files.specs.Counts.{AddUpTo, openings_in}
use Rattle.table_files.specs.declared.counts.OpenCounts.{OpenCounts}
use Rattle.table_files.specs.declared.data.OpenFile.{OpenFile}
use Rattle.table_files.specs.declared.listed.OpenEntry.{OpenEntry}
use Rattle.table_files.specs.OpenEntry.{IsFiled, IsNumbered, count_in}
use Rattle.table_files.proofs.Stepping.{IsNumbered-push, IsNumbered-remove}

-- 1 for a file of the node, and 0 for any other
abbrev counts_as : ℕ → OpenEntry → ℕ
counts_as number f = cond (f.file.number == number) 1 0

module _ {S : Type 0} (old new : IndexMap ℕ (Option ℕ) S) (same : IsUnchanged old new) where
  same_openings : (number : ℕ) → openings_in new number ≡ openings_in old number
  same_openings number = ap (λ (es : List (ℕ × Option ℕ)). unwrap_or (joined (lookup (nat_eq number) es)) 0) same

  same_found : found nat_eq new ≡ found nat_eq old
  same_found = fun_ext (λ number. ap (λ (es : List (ℕ × Option ℕ)). joined (lookup (nat_eq number) es)) same)

  same_total : (nodes total : ℕ) → AddUpTo old nodes total → AddUpTo new nodes total
  same_total nodes total sum = record {
    alive = sum.alive ∙ ap (λ (es : List (ℕ × Option ℕ)). living es) (sym same);
    some = λ n count there. sum.some n count (ap (λ (at : ℕ → Option ℕ). at n) (sym same_found) ∙ there);
    others = sum.others;
    sum = subst (λ (at : ℕ → Option ℕ). IsSum at (λ count. count - 1) sum.others) (sym same_found) sum.sum;
    all = sum.all;
  }

module _ (v w : Vec OpenEntry Global) (counts counts' : OpenCounts) (last room : ℕ) (filed : IsFiled v counts last room) where
  -- what counting a new file requires
  pub few_opened : 0 < room → (number : ℕ) → openings_in counts.by_number number + 1 ≤ vec_capacity v
  few_opened some number =
      let counted = filed.counted number in
      let few = count_by-le-length (λ (f : OpenEntry). f.file.number == number) v.items in
      let fits = filed.fits in
      omega (arith, some, counted, few, fits)

  pub few_nodes : counts.nodes ≤ vec_len v
  few_nodes = let all = filed.total.all in omega (arith, all)

  -- a file is opened under the next handle
  pub filed_opened : (file : OpenFile) → 0 < room → w.items ≡ v.items ++ record { handle = last + 1; file = file } ∷ [] → vec_len w ≡ vec_len v + 1 → vec_capacity w ≡ vec_capacity v
      → ((n : ℕ) → openings_in counts'.by_number n ≡ openings_in counts.by_number n + (if nat_eq file.number n then 1 else 0))
      → ((total : ℕ) → AddUpTo counts.by_number counts.nodes total → AddUpTo counts'.by_number counts'.nodes (total + 1)) → places counts.by_number ≤ places counts'.by_number
      → IsFiled w counts' (last + 1) (room - 1)
  filed_opened file some items longer capacity raised total more =
      let filed_last : OpenEntry = record { handle = last + 1; file = file } in
      let fits = filed.fits in
      let had = filed.places in
      record {
        numbered = subst (λ fs. IsNumbered fs (last + 1)) (sym items) (IsNumbered-push v.items last file filed.numbered);
        counted = λ number. raised number ∙ (ap (λ k. k + (if nat_eq file.number number then 1 else 0)) (filed.counted number) ∙ (sym (sum_by_push (counts_as number) v.items filed_last) ∙ ap (λ fs. count_in fs number) (sym items)));
        total = subst (λ (t : ℕ). AddUpTo counts'.by_number counts'.nodes t) (sym longer) (total (vec_len v) filed.total);
        fits = omega (arith, longer, fits, capacity, some);
        places = omega (arith, longer, had, more, some);
      }

  -- the capacity may grow
  pub filed_reserved : (more : ℕ) → w.items ≡ v.items → vec_len w ≡ vec_len v → IsUnchanged counts.by_number counts'.by_number → counts'.nodes ≡ counts.nodes
      → vec_len w + more ≤ vec_capacity w → 2 * (vec_len w + more) ≤ places counts'.by_number → IsFiled w counts' last more
  filed_reserved more items len same nodes fits places_are = record {
    numbered = subst (λ fs. IsNumbered fs last) (sym items) filed.numbered;
    counted = λ number. same_openings counts.by_number counts'.by_number same number ∙ (filed.counted number ∙ ap (λ fs. count_in fs number) (sym items));
    total = subst (λ (t : ℕ). AddUpTo counts'.by_number counts'.nodes t) (sym len) (subst (λ (n : ℕ). AddUpTo counts'.by_number n (vec_len v)) (sym nodes) (same_total counts.by_number counts'.by_number same counts.nodes (vec_len v) filed.total));
    fits = fits;
    places = places_are;
  }

  module _ (i : ℕ) (f : OpenEntry) (within : i < length v.items) (there : f ≡ get_or v.items i f) where
    counted_there : (number : ℕ) → count_in (remove v.items i) number + counts_as number f ≡ count_in v.items number
    counted_there number = ap (λ (g : OpenEntry). count_in (remove v.items i) number + counts_as number g) there ∙ sum_by-remove (counts_as number) v.items i f within

    -- what uncounting a file requires
    pub some_opened : 0 < openings_in counts.by_number f.file.number
    some_opened =
        let counted = filed.counted f.file.number in
        let whole = counted_there f.file.number in
        let one : counts_as f.file.number f ≡ 1 = cond-true (f.file.number == f.file.number) 1 0 (eq-eqb f.file.number f.file.number refl) in
        omega (arith, counted, whole, one)

    -- the file at index i is closed
    pub filed_closed : w.items ≡ remove v.items i → vec_len w + 1 ≡ vec_len v → vec_capacity w ≡ vec_capacity v
        → ((n : ℕ) → openings_in counts'.by_number n ≡ openings_in counts.by_number n - (if nat_eq f.file.number n then 1 else 0))
        → ((total : ℕ) → AddUpTo counts.by_number counts.nodes total → AddUpTo counts'.by_number counts'.nodes (total - 1)) → places counts.by_number ≤ places counts'.by_number
        → IsFiled w counts' last (room + 1)
    filed_closed items shorter capacity lowered total more =
        let fits = filed.fits in
        let had = filed.places in
        record {
          numbered = subst (λ fs. IsNumbered fs last) (sym items) (IsNumbered-remove v.items last i f.handle filed.numbered within (λ d. refl_handle d));
          counted = λ number.
              let was = filed.counted number in
              let whole = counted_there number in
              let now = lowered number in
              let left : openings_in counts'.by_number number ≡ count_in (remove v.items i) number = omega (arith, was, whole, now) in
              left ∙ ap (λ fs. count_in fs number) (sym items);
          total = subst (λ (t : ℕ). AddUpTo counts'.by_number counts'.nodes t) (omega (arith, shorter)) (total (vec_len v) filed.total);
          fits = omega (arith, shorter, fits, capacity);
          places = omega (arith, shorter, had, more);
        }
      where
        refl_handle : (d : OpenEntry) → (get_or v.items i d).handle ≡ f.handle
        refl_handle d = ap (λ (g : OpenEntry). g.handle) (get_or_default v.items i d f within ∙ sym there)
