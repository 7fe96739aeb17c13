-- Bytes that are read and written part by part.
use Rattle.std.proofs.Common.{ℕ, ◌≡◌, ◌≤◌, ◌+◌, ◌-◌, max, List, ◌++◌, Option, Some, length, take, drop, replicate, sym, ap, ◌∙◌, subst, append_assoc, length-append, arith, inl, inr}
use Rattle.std.proofs.lemmas.List.{length-take-le, take_all, take-take, take-append-le, drop-append-le, length-drop, replicate-append-replicate, length-replicate}
use Rattle.std.proofs.Math.Seq.{take-add, take-append-add, take-append_seam, drop-append-add, drop-append_seam, drop-drop}
use borrow.Rule.Slice.PartMut.{put_mid, post_of}
use mathlib.Core.Path.{fun_ext}
use Rattle.paths.specs.Prefixes.{Names}
use Rattle.backing.specs.declared.entries.Item.{Item}
use Rattle.backing.specs.declared.entries.Item.TheVariants.{File}
use Rattle.backing.specs.Files.{written, overlaid, resized, read}
use Rattle.backing.specs.Tree.{Tree, with_item}
use Rattle.backing.proofs.PathLemmas.{same_path}
use Rattle.backing.proofs.Looking.{with_same, with_other}
use Rattle.disk.specs.Answers.{WritesPart}
use Rattle.disk_folder.specs.Parts.{WroteSoFar}

-- so many bytes stand in the buffer
pub record ReadSoFar (bytes : List ℕ) (offset count : ℕ) (buffer : List ℕ) : Type 0 where
  pub read_ok : take count buffer ≡ take count (drop offset bytes)
  pub held : count ≤ length (drop offset bytes)

-- a part was read into what is left of the room
pub read_more : (bytes : List ℕ) (offset count more k : ℕ) (room new : List ℕ) → ReadSoFar bytes offset count room → count ≤ length room → more ≤ length new → take more new ≡ take more (drop (offset + count) bytes) → more ≤ length (drop (offset + count) bytes) → ReadSoFar bytes offset (count + more) (put_mid count k room new)
read_more bytes offset count more k room new before within fits is held =
    let prefix = take count room in
    let rest = new ++ post_of count k room in
    let long : length prefix ≡ count = length-take-le count room within in
    let on : drop (offset + count) bytes ≡ drop count (drop offset bytes) = sym (drop-drop count offset bytes) in
    let front : take (count + more) (prefix ++ rest) ≡ prefix ++ take more new = ap (λ (n : ℕ). take (n + more) (prefix ++ rest)) (sym long) ∙ (take-append-add prefix rest more ∙ ap (λ (xs : List ℕ). prefix ++ xs) (take-append-le more new (post_of count k room) fits)) in
    record {
      read_ok = front ∙ (ap (λ (xs : List ℕ). xs ++ take more new) before.read_ok ∙ (ap (λ (xs : List ℕ). take count (drop offset bytes) ++ xs) (is ∙ ap (λ (xs : List ℕ). take more xs) on) ∙ sym (take-add count more (drop offset bytes))));
      held = let h : more ≤ length (drop count (drop offset bytes)) = subst (λ (xs : List ℕ). more ≤ length xs) on held in let old = before.held in omega (arith, length-drop count (drop offset bytes));
    }

pub room_more : (count more k : ℕ) (room new : List ℕ) → count ≤ length room → more ≤ length new → count + more ≤ length (put_mid count k room new)
room_more count more k room new within fits = omega (arith, length-append (take count room) (new ++ post_of count k room), length-append new (post_of count k room), length-take-le count room within)

-- the file ended
pub read_short : (bytes buffer : List ℕ) (offset count size : ℕ) → ReadSoFar bytes offset count buffer → count ≤ size → length bytes ≤ offset + count → take count buffer ≡ read bytes offset size
read_short bytes buffer offset count size it fits end =
    let held = it.held in
    it.read_ok ∙ (take_all count (drop offset bytes) (omega (arith, length-drop offset bytes)) ∙ sym (take_all size (drop offset bytes) (omega (arith, length-drop offset bytes))))

-- bytes that are made longer
longer_is : (n : ℕ) (b : List ℕ) → length b ≤ n → resized n b ≡ b ++ replicate (n - length b) 0
longer_is n b h = ap (λ (xs : List ℕ). xs ++ replicate (n - length b) 0) (take_all n b h)

length-longer : (n : ℕ) (b : List ℕ) → length b ≤ n → length (resized n b) ≡ n
length-longer n b h = ap (λ (xs : List ℕ). length xs) (longer_is n b h) ∙ omega (arith, length-append b (replicate (n - length b) 0), length-replicate {A = ℕ} (n - length b) 0)

longer_on : (m n : ℕ) (b : List ℕ) → length b ≤ m → m ≤ n → resized m b ++ replicate (n - m) 0 ≡ resized n b
longer_on m n b h g =
    let sum : (m - length b) + (n - m) ≡ n - length b = omega arith in
    ap (λ (xs : List ℕ). xs ++ replicate (n - m) 0) (longer_is m b h)
    ∙ (append_assoc b (replicate (m - length b) 0) (replicate (n - m) 0)
    ∙ (ap (λ (xs : List ℕ). b ++ xs) (replicate-append-replicate (m - length b) (n - m) 0 ∙ ap (λ (k : ℕ). replicate k 0) sum)
    ∙ sym (longer_is n b (omega arith))))

-- one write behind the other is one write
pub written_on : (b : List ℕ) (o : ℕ) (x y : List ℕ) → written (written b o x) (o + length x) y ≡ written b o (x ++ y)
written_on b o x y =
    let m = max (length b) (o + length x) in
    let n = max (length b) (o + length x + length y) in
    let v = resized m b in
    let w = resized n b in
    let z = replicate (n - m) 0 in
    let long_v : length v ≡ m = length-longer m b (omega arith) in
    let whole : v ++ z ≡ w = longer_on m n b (omega arith) (omega arith) in
    let first = written b o x in
    let p = take o w ++ x in
    let front : take o v ≡ take o w = sym (take-append-le o v z (omega (arith, long_v))) ∙ ap (λ (xs : List ℕ). take o xs) whole in
    let back : drop (o + length x) v ++ z ≡ drop (o + length x) w = sym (drop-append-le (o + length x) v z (omega (arith, long_v))) ∙ ap (λ (xs : List ℕ). drop (o + length x) xs) whole in
    let long_o : length (take o v) ≡ o = length-take-le o v (omega (arith, long_v)) in
    let long_p : length p ≡ o + length x = sym (ap (λ (xs : List ℕ). length (xs ++ x)) front) ∙ omega (arith, length-append (take o v) x, long_o) in
    let long_first : length first ≡ m = omega (arith, length-append (take o v ++ x) (drop (o + length x) v), length-append (take o v) x, length-drop (o + length x) v, long_o, long_v) in
    let size : max (length first) ((o + length x) + length y) ≡ n = omega (arith, long_first) in
    let grown : resized n first ≡ p ++ drop (o + length x) w =
    longer_is n first (omega (arith, long_first))
    ∙ (ap (λ (k : ℕ). first ++ replicate (n - k) 0) long_first
    ∙ (append_assoc (take o v ++ x) (drop (o + length x) v) z
    ∙ (ap (λ (xs : List ℕ). (take o v ++ x) ++ xs) back ∙ ap (λ (xs : List ℕ). (xs ++ x) ++ drop (o + length x) w) front))) in
    let both : length (x ++ y) ≡ length x + length y = length-append x y in
    let taken : take (o + length x) (p ++ drop (o + length x) w) ≡ p = ap (λ (k : ℕ). take k (p ++ drop (o + length x) w)) (sym long_p) ∙ take-append_seam p (drop (o + length x) w) in
    let left : drop ((o + length x) + length y) (p ++ drop (o + length x) w) ≡ drop ((o + length x) + length y) w =
    ap (λ (k : ℕ). drop (k + length y) (p ++ drop (o + length x) w)) (sym long_p)
    ∙ (drop-append-add p (drop (o + length x) w) (length y) ∙ drop-drop (length y) (o + length x) w) in
    let end : o + length x + length y ≡ o + length (x ++ y) = omega (arith, both) in
    ap (λ (k : ℕ). overlaid (resized k first) (o + length x) y) size
    ∙ (ap (λ (xs : List ℕ). overlaid xs (o + length x) y) grown
    ∙ (ap (λ (xs : List ℕ). (xs ++ y) ++ drop ((o + length x) + length y) (p ++ drop (o + length x) w)) taken
    ∙ (ap (λ (xs : List ℕ). (p ++ y) ++ xs) left
    ∙ (ap (λ (xs : List ℕ). xs ++ drop ((o + length x) + length y) w) (append_assoc (take o w) x y)
    ∙ ap (λ (k : ℕ). (take o (resized (max (length b) k) b) ++ (x ++ y)) ++ drop k (resized (max (length b) k) b)) end))))

pub with_twice : (at : Tree) (p : Names) (x y : Item) → with_item (with_item at p x) p y ≡ with_item at p y
with_twice at p x y = fun_ext (λ r. elim (same_path p r) [
  | inl e ↦
      let one : with_item (with_item at p x) p y r ≡ Some y = subst (λ (s : Names). with_item (with_item at p x) p y s ≡ Some y) e (with_same (with_item at p x) p y) in
      let two : with_item at p y r ≡ Some y = subst (λ (s : Names). with_item at p y s ≡ Some y) e (with_same at p y) in
      one ∙ sym two
  | inr far ↦ with_other (with_item at p x) p y r far ∙ (with_other at p x r far ∙ sym (with_other at p y r far))
])

pub same_bytes : (o : Option Item) (a b : List ℕ) → o ≡ Some (File a) → o ≡ Some (File b) → a ≡ b
same_bytes o a b e f = let g : Some (File a) ≡ Some (File b) = sym e ∙ f in cc

-- a part was written behind what was written so far
pub wrote_more : {H : Type 0} (old mid new : Tree) (olds news : H → Names → Type 0) (p : Names) (before : List ℕ) (offset count more : ℕ) (piece : List ℕ) → old p ≡ Some (File before) → count ≤ length piece → more ≤ length (take (length piece - count) (drop count piece)) → WroteSoFar old p before offset piece count mid → WritesPart mid olds p (offset + count) (take (length piece - count) (drop count piece)) more new news → WroteSoFar old p before offset piece (count + more) new
wrote_more old mid new olds news p before offset count more piece file within fits so_far wrote =
    let all : take (length piece - count) (drop count piece) ≡ drop count piece = take_all (length piece - count) (drop count piece) (omega (arith, length-drop count piece)) in
    let part : take more (take (length piece - count) (drop count piece)) ≡ take more (drop count piece) = ap (λ (xs : List ℕ). take more xs) all in
    let some = wrote.some in
    elim so_far [
      | inl none ↦
          let same = same_bytes (old p) wrote.bytes before (sym (ap (λ (t : Tree). t p) none.1) ∙ wrote.stands) file in
          let start : offset + count ≡ offset = omega (arith, none.0) in
          let total : more ≡ count + more = omega (arith, none.0) in
          let first : take more (drop count piece) ≡ take (count + more) piece = ap (λ (k : ℕ). take more (drop k piece)) none.0 ∙ ap (λ (k : ℕ). take k piece) total in
          inr (
            omega arith,
            wrote.tree ∙ (ap (λ (t : Tree). with_item t p (File (written wrote.bytes (offset + count) (take more (take (length piece - count) (drop count piece)))))) none.1
                ∙ ap (λ (b : List ℕ). with_item old p (File b)) (ap (λ (b : List ℕ). written b (offset + count) (take more (take (length piece - count) (drop count piece)))) same ∙ (ap (λ (k : ℕ). written before k (take more (take (length piece - count) (drop count piece)))) start ∙ ap (λ (xs : List ℕ). written before offset xs) (part ∙ first)))),
          )
      | inr on ↦
          let first = written before offset (take count piece) in
          let there : mid p ≡ Some (File first) = ap (λ (t : Tree). t p) on.1 ∙ with_same old p (File first) in
          let same = same_bytes (mid p) wrote.bytes first wrote.stands there in
          let long : length (take count piece) ≡ count = length-take-le count piece within in
          let next : written first (offset + count) (take more (drop count piece)) ≡ written before offset (take (count + more) piece) =
          ap (λ (k : ℕ). written first (offset + k) (take more (drop count piece))) (sym long)
          ∙ (written_on before offset (take count piece) (take more (drop count piece)) ∙ ap (λ (xs : List ℕ). written before offset xs) (sym (take-add count more piece))) in
          inr (
            omega arith,
            wrote.tree ∙ (ap (λ (t : Tree). with_item t p (File (written wrote.bytes (offset + count) (take more (take (length piece - count) (drop count piece)))))) on.1
                ∙ (with_twice old p (File first) (File (written wrote.bytes (offset + count) (take more (take (length piece - count) (drop count piece)))))
                ∙ ap (λ (b : List ℕ). with_item old p (File b)) (ap (λ (b : List ℕ). written b (offset + count) (take more (take (length piece - count) (drop count piece)))) same ∙ (ap (λ (xs : List ℕ). written first (offset + count) xs) part ∙ next)))),
          )
    ]

-- nothing more was written
pub wrote_still : (old mid new : Tree) (p : Names) (before : List ℕ) (offset n : ℕ) (piece : List ℕ) → new ≡ mid → WroteSoFar old p before offset piece n mid → WroteSoFar old p before offset piece n new
wrote_still old mid new p before offset n piece same so_far = subst (λ (t : Tree). WroteSoFar old p before offset piece n t) (sym same) so_far

-- what was read behind some room, and cut
pub behind_room : (room new post tail : List ℕ) (count len h : ℕ) → length room ≡ h → count ≤ length new → h + count ≤ len → drop h (take (h + count) (take len ((room ++ (new ++ post)) ++ tail))) ≡ take count new
behind_room room new post tail count len h long within fits =
    let whole : List ℕ = room ++ (new ++ (post ++ tail)) in
    let one : (room ++ (new ++ post)) ++ tail ≡ whole = append_assoc room (new ++ post) tail ∙ ap (λ (xs : List ℕ). room ++ xs) (append_assoc new post tail) in
    let two : take (h + count) (take len whole) ≡ take (h + count) whole = take-take (h + count) len whole fits in
    let three : take (h + count) whole ≡ room ++ take count new = ap (λ (n : ℕ). take (n + count) whole) (sym long) ∙ (take-append-add room (new ++ (post ++ tail)) count ∙ ap (λ (xs : List ℕ). room ++ xs) (take-append-le count new (post ++ tail) within)) in
    let four : drop h (room ++ take count new) ≡ take count new = ap (λ (n : ℕ). drop n (room ++ take count new)) (sym long) ∙ drop-append_seam room (take count new) in
    ap (λ (xs : List ℕ). drop h (take (h + count) (take len xs))) one ∙ (ap (λ (xs : List ℕ). drop h xs) (two ∙ three) ∙ four)
