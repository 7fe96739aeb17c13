-- The names in a folder, as they are read a part at a time.
use Rattle.std.proofs.Common.{◌≡◌, ◌≢◌, ◌<◌, ◌+◌, ◌==◌, ℕ, List, [], ◌∷◌, ◌++◌, All, Bool, refl, sym, ap, ◌∙◌, subst, length, take, drop, false, arith, flat_map, slice_index, inl, inr, add-one, suc}
use Rattle.std.proofs.lemmas.Bool.{ne_eqb, cond-false}
use Rattle.std.proofs.lemmas.List.{append-nil, length-drop}
use Rattle.std.proofs.lemmas.List.Elements.{All-head, All-tail}
use Rattle.linux_disk.specs.Listings.{last_name, names_from, Tells, TellsAll, AddsName, ReadsParts, ReadsNext, ReadsOn}
use Rattle.terms.specs.declared.settings.Names.{Names}
use Rattle.os.specs.Paths.{HasNoNul}
use Rattle.std.proofs.lemmas.Bool.{cases_lt}
use Rattle.std.proofs.lemmas.List.{take-append-drop, drop-drop, take_all, drop_all}
use Rattle.std.proofs.lemmas.List.Elements.{All-from_get_or}
use Rattle.std.proofs.Math.Seq.{drop-cons}
use mathlib.Core.List.{append_assoc}

-- what is told of the names before that place
pub record AddsSoFar (shown : Names) (listed : List ℕ) (at : ℕ) (old new : List (List ℕ)) : Type 0 where
  pub names : List (List ℕ)
  pub told : List (List ℕ)
  pub split : names_from [] listed ≡ names ++ names_from [] (drop at listed)
  pub tells : TellsAll shown names told
  pub longer : new ≡ old ++ told

-- a name, and the NUL behind it
pub name_then : (begin name rest : List ℕ) → All (λ byte. byte ≢ 0) name → names_from begin (name ++ 0 ∷ rest) ≡ (begin ++ name) ∷ names_from [] rest
name_then begin [] rest plain = ap (λ (first : List ℕ). first ∷ names_from [] rest) (sym (append-nil begin))
name_then begin (byte ∷ name) rest plain =
    let other : (byte == 0) ≡ false = ne_eqb byte 0 (All-head (λ b. b ≢ 0) byte name plain) in
    cond-false (byte == 0) _ _ other
    ∙ name_then (begin ++ byte ∷ []) name rest (All-tail (λ b. b ≢ 0) byte name plain)
    ∙ ap (λ (first : List ℕ). first ∷ names_from [] rest) (append_assoc begin (byte ∷ []) name)

-- a name at the end
pub name_at_end : (begin name : List ℕ) → All (λ byte. byte ≢ 0) name → names_from begin name ≡ last_name (begin ++ name)
name_at_end begin [] plain = ap last_name (sym (append-nil begin))
name_at_end begin (byte ∷ name) plain =
    let other : (byte == 0) ≡ false = ne_eqb byte 0 (All-head (λ b. b ≢ 0) byte name plain) in
    cond-false (byte == 0) _ _ other
    ∙ name_at_end (begin ++ byte ∷ []) name (All-tail (λ b. b ≢ 0) byte name plain)
    ∙ ap last_name (append_assoc begin (byte ∷ []) name)

-- what is told of some names, and then of others
pub tells_both : (shown : Names) (xs ys told told' : List (List ℕ)) → TellsAll shown xs told → TellsAll shown ys told' → TellsAll shown (xs ++ ys) (told ++ told')
tells_both shown [] ys told told' e tells = subst (λ (t : List (List ℕ)). TellsAll shown ys (t ++ told')) (sym e) tells
tells_both shown (x ∷ xs) ys told told' (first, rest, one, all, e) tells =
    (first, rest ++ told', one, tells_both shown xs ys rest told' all tells, ap (λ (t : List (List ℕ)). t ++ told') e ∙ append_assoc first rest told')

-- what is told of one name
pub tells_one : (shown : Names) (name : List ℕ) (told : List (List ℕ)) → Tells shown name told → TellsAll shown (name ∷ []) told
tells_one shown name told one = (told, [], one, refl, sym (append-nil told))

last_name_some : (name : List ℕ) → 0 < length name → last_name name ≡ name ∷ []
last_name_some [] some = absurd (omega (arith, some))
last_name_some (byte ∷ name) some = refl

-- the name that a part begins with, and those behind it
first_of : (bytes : List ℕ) (n : ℕ) → 0 < length bytes → All (λ byte. byte ≢ 0) (take n bytes) → (n < length bytes → slice_index bytes n ≡ 0) → names_from [] bytes ≡ take n bytes ∷ names_from [] (drop (n + 1) bytes)
first_of bytes n some plain nul = elim (cases_lt n (length bytes)) [
  | inl within ↦
      let cut : drop n bytes ≡ 0 ∷ drop (n + 1) bytes = drop-cons bytes n 0 within ∙ ap (λ (byte : ℕ). byte ∷ drop (suc n) bytes) (nul within) ∙ ap (λ (k : ℕ). 0 ∷ drop k bytes) (sym (add-one n)) in
      let whole : take n bytes ++ 0 ∷ drop (n + 1) bytes ≡ bytes = ap (λ (rest : List ℕ). take n bytes ++ rest) (sym cut) ∙ take-append-drop n bytes in
      ap (names_from []) (sym whole) ∙ name_then [] (take n bytes) (drop (n + 1) bytes) plain
  | inr past ↦
      let all : take n bytes ≡ bytes = take_all n bytes past in
      let none : drop (n + 1) bytes ≡ [] = drop_all (n + 1) bytes (omega arith) in
      ap (names_from []) (sym all) ∙ name_at_end [] (take n bytes) plain
      ∙ last_name_some (take n bytes) (subst (λ (name : List ℕ). 0 < length name) (sym all) some)
      ∙ ap (λ (rest : List ℕ). take n bytes ∷ names_from [] rest) (sym none)
]

-- one name more
pub adds_on : (shown : Names) (listed : List ℕ) (at n : ℕ) (old mid new : List (List ℕ)) → at < length listed → HasNoNul (take n (drop at listed)) → (n < length (drop at listed) → slice_index (drop at listed) n ≡ 0) → AddsSoFar shown listed at old mid → AddsName shown (take n (drop at listed)) mid new → AddsSoFar shown listed (at + (n + 1)) old new
adds_on shown listed at n old mid new within no_nul nul so_far adds =
    let name : List ℕ = take n (drop at listed) in
    let plain : All (λ byte. byte ≢ 0) name = All-from_get_or (λ byte. byte ≢ 0) name 0 no_nul in
    let some : 0 < length (drop at listed) = simp length-drop (omega arith) in
    let rest : names_from [] (drop at listed) ≡ name ∷ names_from [] (drop (at + (n + 1)) listed) =
    first_of (drop at listed) n some plain nul ∙ ap (λ (bytes : List ℕ). name ∷ names_from [] bytes) (drop-drop (n + 1) at listed) in
    record {
      names = so_far.names ++ name ∷ [];
      told = so_far.told ++ adds.told;
      split = so_far.split ∙ ap (λ (more : List (List ℕ)). so_far.names ++ more) rest ∙ sym (append_assoc so_far.names (name ∷ []) (names_from [] (drop (at + (n + 1)) listed)));
      tells = tells_both shown so_far.names (name ∷ []) so_far.told adds.told so_far.tells (tells_one shown name adds.told adds.tells);
      longer = adds.longer ∙ ap (λ (all : List (List ℕ)). all ++ adds.told) so_far.longer ∙ append_assoc old so_far.told adds.told;
    }

-- the same, of the pieces that the code cuts
pub adds_piece : (shown : Names) (listed rest name : List ℕ) (at n : ℕ) (old mid new : List (List ℕ)) → rest ≡ drop at listed → name ≡ take n rest → at < length listed → HasNoNul (take n rest) → (n < length rest → slice_index rest n ≡ 0) → AddsSoFar shown listed at old mid → AddsName shown name mid new → AddsSoFar shown listed (at + (n + 1)) old new
adds_piece shown listed rest name at n old mid new cut cut' within no_nul nul so_far adds =
    let Named : List ℕ → Type 0 = λ (piece : List ℕ). HasNoNul (take n piece) in
    let Ended : List ℕ → Type 0 = λ (piece : List ℕ). n < length piece → slice_index piece n ≡ 0 in
    let Added : List ℕ → Type 0 = λ (piece : List ℕ). AddsName shown piece mid new in
    adds_on shown listed at n old mid new within (subst Named cut no_nul) (subst Ended cut nul) so_far (subst Added (cut' ∙ ap (take n) cut) adds)

-- ---- parts

-- one part more
parts_on : {K : Type 0} (advances : K → List ℕ → K → Type 0) (old mid new : K) (parts : List (List ℕ)) (part : List ℕ) → ReadsParts advances old parts mid → advances mid part new → ReadsParts advances old (parts ++ part ∷ []) new
parts_on advances old mid new [] part same read = (new, subst (λ from. advances from part new) same read, refl)
parts_on advances old mid new (first ∷ parts) part (next, one, all) read = (next, one, parts_on advances next mid new parts part all read)

names_on : (parts : List (List ℕ)) (part : List ℕ) → flat_map (names_from []) (parts ++ part ∷ []) ≡ flat_map (names_from []) parts ++ names_from [] part
names_on [] part = append-nil (names_from [] part)
names_on (first ∷ parts) part = ap (λ (names : List (List ℕ)). names_from [] first ++ names) (names_on parts part) ∙ sym (append_assoc (names_from [] first) (flat_map (names_from []) parts) (names_from [] part))

pub reads_on : {K : Type 0} (shown : Names) (advances : K → List ℕ → K → Type 0) (old mid new : K) (names names' : List (List ℕ)) (more : Bool) → ReadsOn shown advances old mid names → ReadsNext shown advances mid new names names' more → ReadsOn shown advances old new names'
reads_on shown advances old mid new names names' more on next = record {
  parts = on.parts ++ next.part ∷ [];
  read = parts_on advances old mid new on.parts next.part on.read next.read;
  tells =
      let both : TellsAll shown (flat_map (names_from []) on.parts ++ names_from [] next.part) (names ++ next.adds.told) = tells_both shown _ _ names next.adds.told on.tells next.adds.tells in
      subst (λ (told : List (List ℕ)). TellsAll shown (flat_map (names_from []) (on.parts ++ next.part ∷ [])) told) (sym next.adds.longer)
      (subst (λ (all : List (List ℕ)). TellsAll shown all (names ++ next.adds.told)) (sym (names_on on.parts next.part)) both);
}
