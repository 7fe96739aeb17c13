-- Spots that get their new paths, from the last to the first.
use Rattle.std.proofs.Common.{ℕ, ◌≡◌, ◌<◌, ◌≤◌, ◌+◌, ◌-◌, suc, zero, length, take, drop, set, get_or, List, ◌++◌, ◌∷◌, [], refl, sym, ap, ◌∙◌, subst, arith}
use Rattle.std.proofs.Math.Seq.{take-suc}
use Rattle.std.proofs.lemmas.List.{same_from_push, length_push}
use Rattle.paths.specs.Prefixes.{Names}
use Rattle.disk.specs.declared.spot.Spot.{Spot}
use Rattle.disk.specs.Spots.{with_path, with_paths}

nothing_more : (spots : List Spot) → take (length spots) spots ++ drop (length spots) spots ≡ spots
nothing_more [] = refl
nothing_more (x ∷ spots) = ap (λ (xs : List Spot). x ∷ xs) (nothing_more spots)

before_all : (spots : List Spot) (ps : List Names) → spots ≡ take (length spots) spots ++ drop (length spots) (with_paths spots ps)
before_all [] ps = refl
before_all (x ∷ spots) [] = ap (λ (xs : List Spot). x ∷ xs) (sym (nothing_more spots))
before_all (x ∷ spots) (p ∷ ps) = ap (λ (xs : List Spot). x ∷ xs) (before_all spots ps)

-- none has its new path yet
pub before_first : (spots : List Spot) (ps : List Names) (n : ℕ) → n ≡ length spots → spots ≡ take n spots ++ drop n (with_paths spots ps)
before_first spots ps n e = subst (λ (k : ℕ). spots ≡ take k spots ++ drop k (with_paths spots ps)) (sym e) (before_all spots ps)

-- one more has it
one_more : (spots : List Spot) (ps : List Names) (j : ℕ) (d : Spot) (dp : Names) → length spots ≡ length ps → j < length spots
    → set (take (suc j) spots ++ drop (suc j) (with_paths spots ps)) j (with_path (get_or (take (suc j) spots ++ drop (suc j) (with_paths spots ps)) j d) (get_or ps j dp)) ≡ take j spots ++ drop j (with_paths spots ps)
one_more [] ps j d dp same within = absurd (omega arith)
one_more (x ∷ spots) [] j d dp same within = absurd (omega arith)
one_more (x ∷ spots) (p ∷ ps) zero d dp same within = refl
one_more (x ∷ spots) (p ∷ ps) (suc j) d dp same within = ap (λ (xs : List Spot). x ∷ xs) (one_more spots ps j d dp (omega arith) (omega arith))

pub record Step (spots new : List Spot) (ps left' : List Names) (j : ℕ) : Type 0 where
  pub count : j ≡ length left'
  pub within : j ≤ length ps
  pub left : left' ≡ take j ps
  pub set : new ≡ take j spots ++ drop j (with_paths spots ps)

-- one path was popped, and its spot has it
pub one_step : (spots now new : List Spot) (ps left left' : List Names) (i : ℕ) (path : Names) → length spots ≡ length ps → i ≤ length ps → i ≡ length left → left ≡ take i ps → left ≡ left' ++ path ∷ [] → now ≡ take i spots ++ drop i (with_paths spots ps)
    → ((d : Spot) → new ≡ set now (i - 1) (with_path (get_or now (i - 1) d) path)) → Step spots new ps left' (i - 1)
one_step [] now new ps left left' i path same within count before popped was then =
    let n : length left ≡ length left' + 1 = ap (λ (xs : List Names). length xs) popped ∙ length_push left' path in
    absurd (omega arith)
one_step (x ∷ spots) now new ps left left' i path same within count before popped was then =
    let n : length left ≡ length left' + 1 = ap (λ (xs : List Names). length xs) popped ∙ length_push left' path in
    let j = length left' in
    let all : List Spot = x ∷ spots in
    let is : i ≡ suc j = omega arith in
    let is' : i - 1 ≡ j = omega arith in
    let whole : take (suc j) ps ≡ left' ++ path ∷ [] = ap (λ (k : ℕ). take k ps) (sym is) ∙ (sym before ∙ popped) in
    let parts = same_from_push (take j ps) left' (get_or ps j path) path (sym (take-suc ps j path (omega arith)) ∙ whole) in
    let was' : now ≡ take (suc j) all ++ drop (suc j) (with_paths all ps) = was ∙ ap (λ (k : ℕ). take k all ++ drop k (with_paths all ps)) is in
    let then' : new ≡ set now j (with_path (get_or now j x) path) = then x ∙ ap (λ (k : ℕ). set now k (with_path (get_or now k x) path)) is' in
    let moves : new ≡ take j all ++ drop j (with_paths all ps) =
    then' ∙ (ap (λ (xs : List Spot). set xs j (with_path (get_or xs j x) path)) was'
    ∙ (ap (λ (q : Names). set (take (suc j) all ++ drop (suc j) (with_paths all ps)) j (with_path (get_or (take (suc j) all ++ drop (suc j) (with_paths all ps)) j x) q)) (sym parts.1)
    ∙ one_more all ps j x path same (omega arith))) in
    record {
      count = is';
      within = omega arith;
      left = sym parts.0 ∙ ap (λ (k : ℕ). take k ps) (sym is');
      set = moves ∙ ap (λ (k : ℕ). take k all ++ drop k (with_paths all ps)) (sym is');
    }
