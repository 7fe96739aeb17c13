-- Entries get their new paths, from the last to the first.
use Rattle.std.proofs.Common.{ℕ, ◌≡◌, ◌<◌, ◌≤◌, ◌+◌, ◌-◌, suc, zero, length, take, drop, set, get_or, List, ◌++◌, ◌∷◌, [], Option, refl, sym, ap, ◌∙◌, subst, arith}
use Rattle.std.proofs.Math.Seq.{take-suc}
use Rattle.std.proofs.lemmas.List.{same_from_push, length_push}
use Rattle.paths.specs.Prefixes.{Names}
use Rattle.backing.specs.declared.entries.TreeEntry.{TreeEntry}
use Rattle.backing.specs.Moves.{with_path, with_paths}

pub length-with_paths : (es : List TreeEntry) (ps : List (Option Names)) → length (with_paths es ps) ≡ length es
length-with_paths [] ps = refl
length-with_paths (e ∷ es) [] = refl
length-with_paths (e ∷ es) (p ∷ ps) = ap suc (length-with_paths es ps)

nothing_more : (es : List TreeEntry) → take (length es) es ++ drop (length es) es ≡ es
nothing_more [] = refl
nothing_more (e ∷ es) = ap (λ (xs : List TreeEntry). e ∷ xs) (nothing_more es)

before_all : (es : List TreeEntry) (ps : List (Option Names)) → es ≡ take (length es) es ++ drop (length es) (with_paths es ps)
before_all [] ps = refl
before_all (e ∷ es) [] = ap (λ (xs : List TreeEntry). e ∷ xs) (sym (nothing_more es))
before_all (e ∷ es) (p ∷ ps) = ap (λ (xs : List TreeEntry). e ∷ xs) (before_all es ps)

-- none has its new path yet
pub before_first : (es : List TreeEntry) (ps : List (Option Names)) (n : ℕ) → n ≡ length es → es ≡ take n es ++ drop n (with_paths es ps)
before_first es ps n e = subst (λ (k : ℕ). es ≡ take k es ++ drop k (with_paths es ps)) (sym e) (before_all es ps)

-- one more has its new path
pub one_more : (es : List TreeEntry) (ps : List (Option Names)) (j : ℕ) (d : TreeEntry) (dp : Option Names) → length es ≡ length ps → j < length es
    → set (take (suc j) es ++ drop (suc j) (with_paths es ps)) j (with_path (get_or (take (suc j) es ++ drop (suc j) (with_paths es ps)) j d) (get_or ps j dp)) ≡ take j es ++ drop j (with_paths es ps)
one_more [] ps j d dp same within = absurd (omega arith)
one_more (e ∷ es) [] j d dp same within = absurd (omega arith)
one_more (e ∷ es) (p ∷ ps) zero d dp same within = refl
one_more (e ∷ es) (p ∷ ps) (suc j) d dp same within = ap (λ (xs : List TreeEntry). e ∷ xs) (one_more es ps j d dp (omega arith) (omega arith))

pub record Step (es new : List TreeEntry) (ps left' : List (Option Names)) (j : ℕ) : Type 0 where
  pub count : j ≡ length left'
  pub within : j ≤ length ps
  pub left : left' ≡ take j ps
  pub set : new ≡ take j es ++ drop j (with_paths es ps)

-- one path was popped and set as that of its entry
pub one_step : (es entries new : List TreeEntry) (ps left left' : List (Option Names)) (i : ℕ) (path : Option Names) → length es ≡ length ps → i ≤ length ps → i ≡ length left → left ≡ take i ps → left ≡ left' ++ path ∷ [] → entries ≡ take i es ++ drop i (with_paths es ps)
    → ((d : TreeEntry) → new ≡ set entries (i - 1) (with_path (get_or entries (i - 1) d) path)) → Step es new ps left' (i - 1)
one_step [] entries new ps left left' i path same within count before popped was now =
    let n : length left ≡ length left' + 1 = ap (λ (xs : List (Option Names)). length xs) popped ∙ length_push left' path in
    absurd (omega arith)
one_step (e ∷ es) entries new ps left left' i path same within count before popped was now =
    let n : length left ≡ length left' + 1 = ap (λ (xs : List (Option Names)). length xs) popped ∙ length_push left' path in
    let j = length left' in
    let all : List TreeEntry = e ∷ es in
    let is : i ≡ suc j = omega arith in
    let is' : i - 1 ≡ j = omega arith in
    let whole : take (suc j) ps ≡ left' ++ path ∷ [] = ap (λ (k : ℕ). take k ps) (sym is) ∙ (sym before ∙ popped) in
    let parts = same_from_push (take j ps) left' (get_or ps j path) path (sym (take-suc ps j path (omega arith)) ∙ whole) in
    let was' : entries ≡ take (suc j) all ++ drop (suc j) (with_paths all ps) = was ∙ ap (λ (k : ℕ). take k all ++ drop k (with_paths all ps)) is in
    let now' : new ≡ set entries j (with_path (get_or entries j e) path) = now e ∙ ap (λ (k : ℕ). set entries k (with_path (get_or entries k e) path)) is' in
    let moves : new ≡ take j all ++ drop j (with_paths all ps) =
    now' ∙ (ap (λ (xs : List TreeEntry). set xs j (with_path (get_or xs j e) path)) was'
    ∙ (ap (λ (q : Option Names). set (take (suc j) all ++ drop (suc j) (with_paths all ps)) j (with_path (get_or (take (suc j) all ++ drop (suc j) (with_paths all ps)) j e) q)) (sym parts.1)
    ∙ one_more all ps j e path same (omega arith))) in
    record {
      count = is';
      within = omega arith;
      left = sym parts.0 ∙ ap (λ (k : ℕ). take k ps) (sym is');
      set = moves ∙ ap (λ (k : ℕ). take k all ++ drop k (with_paths all ps)) (sym is');
    }
