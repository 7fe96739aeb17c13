-- What an exchange does to a list of entries, and to the tree.
use Rattle.std.proofs.Common.{ℤ, ◌≡◌, length, drop, map, true, false, Bool, ◌&&◌, cond, List, ◌++◌, ◌∷◌, [], Option, Some, None, IsSome, refl, sym, ap, ◌∙◌, subst, inl, inr, append_assoc, append-nil}
use mathlib.Core.Path.{fun_ext}
use Rattle.std.proofs.lemmas.Bool.{cond-true, cond-false, true≢false, cases_Bool}
use Rattle.std.proofs.lemmas.List.{same_from_push}
use Rattle.paths.specs.Prefixes.{Name, Names, is_name, is_prefix}
use Rattle.paths.proofs.PrefixLemmas.{is_name-true, is_name-same, is_prefix-more, is_prefix-append, drop-append}
use Rattle.backing.specs.declared.call.Answer.TheVariants.{Done}
use Rattle.backing.specs.declared.entries.Item.{Item}
use Rattle.backing.specs.declared.entries.Item.TheVariants.{Folder}
use Rattle.backing.specs.declared.entries.TreeEntry.{TreeEntry}
use Rattle.backing.specs.Tree.{Tree, IsTree, Resolves, is_path, exchanged}
use Rattle.backing.specs.Calls.{memory_limit, AskExchange, PassesAll, Refuses, Does, tests_of, unless}
use Rattle.backing.specs.Checks.{source_tests, exchange_tests}
use Rattle.backing.specs.Entries.{look, tree_of, IsDistinct, IsEntryTree}
use Rattle.backing.specs.Moves.{exchanged_path, with_path, with_paths}
use Rattle.backing.proofs.PathLemmas.{same_path, is_path-yes, is_path-no}
use Rattle.backing.proofs.Looking.{tree-not_root}
use Rattle.backing.proofs.Lawful.{parent_leads}
use Rattle.backing.proofs.Relocating.{last_of, no_prefix, prefix_of_root, prefix_cases, root_cases}
use Rattle.backing.proofs.Tests.{refuses_later, passes_both}

pub exchanges_same : (at : Tree) (s t : Names) → s ≡ t → PassesAll at (source_tests s t) → PassesAll at (tests_of memory_limit (AskExchange s t)) × Does at (AskExchange s t) Done at
exchanges_same at s t same source =
    subst (λ (b : Bool). PassesAll at (source_tests s t ++ unless b (exchange_tests s t)) × ((Done ≡ Done) × (at ≡ cond b at (exchanged at s t)))) (sym (is_path-yes s t same)) (passes_both at (source_tests s t) [] source tt, (refl, refl))

pub exchanges : (at new : Tree) (s t : Names) → (s ≡ t → ⊥) → PassesAll at (source_tests s t) → PassesAll at (exchange_tests s t) → new ≡ exchanged at s t → PassesAll at (tests_of memory_limit (AskExchange s t)) × Does at (AskExchange s t) Done new
exchanges at new s t other source room is =
    subst (λ (b : Bool). PassesAll at (source_tests s t ++ unless b (exchange_tests s t)) × ((Done ≡ Done) × (new ≡ cond b at (exchanged at s t)))) (sym (is_path-no s t other)) (passes_both at (source_tests s t) (exchange_tests s t) source room, (refl, is))

pub exchanges_refused : (at : Tree) (s t : Names) (errno : ℤ) → (s ≡ t → ⊥) → PassesAll at (source_tests s t) → Refuses at (exchange_tests s t) errno → Refuses at (tests_of memory_limit (AskExchange s t)) errno
exchanges_refused at s t errno other source room =
    subst (λ (b : Bool). Refuses at (source_tests s t ++ unless b (exchange_tests s t)) errno) (sym (is_path-no s t other)) (refuses_later at (source_tests s t) (exchange_tests s t) errno source room)

-- neither path leads through the other
abbrev pub Apart : Names → Names → Type 0
Apart s t = (is_prefix s t ≡ false) × (is_prefix t s ≡ false)

-- a path below one of two such paths is not below the other
beside : (s t more : Names) → Apart s t → is_prefix s (t ++ more) ≡ false
beside [] t more apart = absurd (true≢false apart.0)
beside (x ∷ s) [] more apart = absurd (true≢false apart.1)
beside (x ∷ s) (y ∷ t) more apart = elim (cases_Bool (is_name x y)) [
  | inl same ↦
      let back : is_name y x ≡ true = subst (λ (z : Name). is_name z x ≡ true) (is_name-true x y same) (is_name-same x) in
      let there : is_prefix s t ≡ false = subst (λ (b : Bool). (b && is_prefix s t) ≡ false) same apart.0 in
      let here : is_prefix t s ≡ false = subst (λ (b : Bool). (b && is_prefix t s) ≡ false) back apart.1 in
      ap (λ (b : Bool). b && is_prefix s (t ++ more)) same ∙ beside s t more (there, here)
  | inr other ↦ ap (λ (b : Bool). b && is_prefix s (t ++ more)) other
]

-- the new path of a path
abbrev pub swapped : Names → Names → Names → Names
swapped s t p = cond (is_prefix s p) (t ++ drop (length s) p) (cond (is_prefix t p) (s ++ drop (length t) p) p)

swapped_first : (s t more : Names) → swapped s t (s ++ more) ≡ t ++ more
swapped_first s t more =
    cond-true (is_prefix s (s ++ more)) (t ++ drop (length s) (s ++ more)) (cond (is_prefix t (s ++ more)) (s ++ drop (length t) (s ++ more)) (s ++ more)) (is_prefix-append s more)
    ∙ ap (λ (r : Names). t ++ r) (drop-append s more)

swapped_second : (s t more : Names) → Apart s t → swapped s t (t ++ more) ≡ s ++ more
swapped_second s t more apart =
    cond-false (is_prefix s (t ++ more)) (t ++ drop (length s) (t ++ more)) (cond (is_prefix t (t ++ more)) (s ++ drop (length t) (t ++ more)) (t ++ more)) (beside s t more apart)
    ∙ (cond-true (is_prefix t (t ++ more)) (s ++ drop (length t) (t ++ more)) (t ++ more) (is_prefix-append t more)
    ∙ ap (λ (r : Names). s ++ r) (drop-append t more))

swapped_else : (s t p : Names) → is_prefix s p ≡ false → is_prefix t p ≡ false → swapped s t p ≡ p
swapped_else s t p one two =
    cond-false (is_prefix s p) (t ++ drop (length s) p) (cond (is_prefix t p) (s ++ drop (length t) p) p) one
    ∙ cond-false (is_prefix t p) (s ++ drop (length t) p) p two

-- every path is one of three kinds
each_way : (P : Names → Type 0) (s t q : Names) → ((more : Names) → P (s ++ more)) → ((more : Names) → P (t ++ more)) → (is_prefix s q ≡ false → is_prefix t q ≡ false → P q) → P q
each_way P s t q one two three = elim (prefix_cases s q) [
  | inl (more, e) ↦ subst (λ (r : Names). P r) (sym e) (one more)
  | inr far ↦ elim (prefix_cases t q) [
    | inl (more, e) ↦ subst (λ (r : Names). P r) (sym e) (two more)
    | inr else ↦ three far else
  ]
]

-- exchanging twice changes nothing
swapped_back : (s t q : Names) → Apart s t → swapped s t (swapped s t q) ≡ q
swapped_back s t q apart = each_way (λ (r : Names). swapped s t (swapped s t r) ≡ r) s t q
    (λ more. ap (λ (r : Names). swapped s t r) (swapped_first s t more) ∙ swapped_second s t more apart)
    (λ more. ap (λ (r : Names). swapped s t r) (swapped_second s t more apart) ∙ swapped_first s t more)
    (λ one two. ap (λ (r : Names). swapped s t r) (swapped_else s t q one two) ∙ swapped_else s t q one two)

-- the root does not move
swapped_root : (s t : Names) → (s ≡ [] → ⊥) → (t ≡ [] → ⊥) → swapped s t [] ≡ []
swapped_root s t low_s low_t = swapped_else s t [] (prefix_of_root s low_s) (prefix_of_root t low_t)

-- ---- the list

abbrev swapped_entry : Names → Names → TreeEntry → TreeEntry
swapped_entry s t e = record e { path = swapped s t e.path }

abbrev pub all_swapped : Names → Names → List TreeEntry → List TreeEntry
all_swapped s t es = map (λ (e : TreeEntry). swapped_entry s t e) es

entry_swapped : (s t : Names) (e : TreeEntry) → with_path e (exchanged_path s t e.path) ≡ swapped_entry s t e
entry_swapped s t e = elim (cases_Bool (is_prefix s e.path)) [
  | inl h ↦
      ap (λ (o : Option Names). with_path e o) (cond-true (is_prefix s e.path) (Some (t ++ drop (length s) e.path)) (cond (is_prefix t e.path) (Some (s ++ drop (length t) e.path)) None) h)
      ∙ ap (λ (p : Names). record e { path = p }) (sym (cond-true (is_prefix s e.path) (t ++ drop (length s) e.path) (cond (is_prefix t e.path) (s ++ drop (length t) e.path) e.path) h))
  | inr h ↦ elim (cases_Bool (is_prefix t e.path)) [
    | inl k ↦
        ap (λ (o : Option Names). with_path e o) (cond-false (is_prefix s e.path) (Some (t ++ drop (length s) e.path)) (cond (is_prefix t e.path) (Some (s ++ drop (length t) e.path)) None) h ∙ cond-true (is_prefix t e.path) (Some (s ++ drop (length t) e.path)) None k)
        ∙ ap (λ (p : Names). record e { path = p }) (sym (cond-false (is_prefix s e.path) (t ++ drop (length s) e.path) (cond (is_prefix t e.path) (s ++ drop (length t) e.path) e.path) h ∙ cond-true (is_prefix t e.path) (s ++ drop (length t) e.path) e.path k))
    | inr k ↦
        ap (λ (o : Option Names). with_path e o) (cond-false (is_prefix s e.path) (Some (t ++ drop (length s) e.path)) (cond (is_prefix t e.path) (Some (s ++ drop (length t) e.path)) None) h ∙ cond-false (is_prefix t e.path) (Some (s ++ drop (length t) e.path)) None k)
        ∙ ap (λ (p : Names). record e { path = p }) (sym (swapped_else s t e.path h k))
  ]
]

pub swapped_all : (s t : Names) (es : List TreeEntry) → with_paths es (map (λ (e : TreeEntry). exchanged_path s t e.path) es) ≡ all_swapped s t es
swapped_all s t [] = refl
swapped_all s t (e ∷ es) =
    ap (λ (x : TreeEntry). x ∷ with_paths es (map (λ (e : TreeEntry). exchanged_path s t e.path) es)) (entry_swapped s t e)
    ∙ ap (λ (xs : List TreeEntry). swapped_entry s t e ∷ xs) (swapped_all s t es)

-- a path that moves to q is the new path of q
path_swapped : (s t p q : Names) → Apart s t → is_path (swapped s t p) q ≡ is_path p (swapped s t q)
path_swapped s t p q apart = elim (same_path p (swapped s t q)) [
  | inl e ↦
      let to : swapped s t p ≡ q = ap (λ (r : Names). swapped s t r) e ∙ swapped_back s t q apart in
      is_path-yes (swapped s t p) q to ∙ sym (is_path-yes p (swapped s t q) e)
  | inr other ↦
      let not_to : swapped s t p ≡ q → ⊥ = λ f. other (sym (swapped_back s t p apart) ∙ ap (λ (r : Names). swapped s t r) f) in
      is_path-no (swapped s t p) q not_to ∙ sym (is_path-no p (swapped s t q) other)
]

look-swapped : (s t : Names) (es : List TreeEntry) (q : Names) → Apart s t → look (all_swapped s t es) q ≡ look es (swapped s t q)
look-swapped s t [] q apart = refl
look-swapped s t (e ∷ es) q apart =
    ap (λ (b : Bool). cond b (Some e.item) (look (all_swapped s t es) q)) (path_swapped s t e.path q apart)
    ∙ ap (λ (o : Option Item). cond (is_path e.path (swapped s t q)) (Some e.item) o) (look-swapped s t es q apart)

distinct_swapped : (s t : Names) (es : List TreeEntry) → Apart s t → IsDistinct es → IsDistinct (all_swapped s t es)
distinct_swapped s t [] apart once = tt
distinct_swapped s t (e ∷ es) apart once =
    (look-swapped s t es (swapped s t e.path) apart ∙ (ap (λ (q : Names). look es q) (swapped_back s t e.path apart) ∙ once.0), distinct_swapped s t es apart once.1)

-- ---- the tree

exchanged_at : (at : Tree) (s t q : Names) → exchanged at s t q ≡ at (swapped s t q)
exchanged_at at s t q = elim (cases_Bool (is_prefix s q)) [
  | inl h ↦
      cond-true (is_prefix s q) (at (t ++ drop (length s) q)) (cond (is_prefix t q) (at (s ++ drop (length t) q)) (at q)) h
      ∙ ap (λ (r : Names). at r) (sym (cond-true (is_prefix s q) (t ++ drop (length s) q) (cond (is_prefix t q) (s ++ drop (length t) q) q) h))
  | inr h ↦ cond-false (is_prefix s q) (at (t ++ drop (length s) q)) (cond (is_prefix t q) (at (s ++ drop (length t) q)) (at q)) h ∙ (elim (cases_Bool (is_prefix t q)) [
    | inl k ↦
        cond-true (is_prefix t q) (at (s ++ drop (length t) q)) (at q) k
        ∙ ap (λ (r : Names). at r) (sym (cond-false (is_prefix s q) (t ++ drop (length s) q) (cond (is_prefix t q) (s ++ drop (length t) q) q) h ∙ cond-true (is_prefix t q) (s ++ drop (length t) q) q k))
    | inr k ↦
        cond-false (is_prefix t q) (at (s ++ drop (length t) q)) (at q) k
        ∙ ap (λ (r : Names). at r) (sym (swapped_else s t q h k))
  ])
]

pub tree-swapped : (s t : Names) (es : List TreeEntry) → (s ≡ [] → ⊥) → (t ≡ [] → ⊥) → Apart s t → tree_of (all_swapped s t es) ≡ exchanged (tree_of es) s t
tree-swapped s t es low_s low_t apart = fun_ext (λ q. elim (root_cases q) [
  | inl e ↦
      let P : Names → Type 0 = λ r. tree_of (all_swapped s t es) r ≡ exchanged (tree_of es) s t r in
      subst P (sym e) (sym (exchanged_at (tree_of es) s t [] ∙ ap (λ (r : Names). tree_of es r) (swapped_root s t low_s low_t)))
  | inr low ↦
      let there : swapped s t q ≡ [] → ⊥ = λ e. low (sym (swapped_back s t q apart) ∙ (ap (λ (r : Names). swapped s t r) e ∙ swapped_root s t low_s low_t)) in
      tree-not_root (all_swapped s t es) q low ∙ (look-swapped s t es q apart ∙ (sym (tree-not_root es (swapped s t q) there) ∙ sym (exchanged_at (tree_of es) s t q)))
])

-- a path that leads to one below s, and is not itself below s, leads to s
leads_to : (s up : Names) (name : Name) → is_prefix s up ≡ false → is_prefix s (up ++ name ∷ []) ≡ true → s ≡ up ++ name ∷ []
leads_to s up name far below =
    let (more, e) = is_prefix-more s (up ++ name ∷ []) below in
    elim more as (λ (r : Names). up ++ name ∷ [] ≡ s ++ r → s ≡ up ++ name ∷ []) [
      | [] ↦ λ e. sym (e ∙ append-nil s)
      | x ∷ more ↦ λ e.
          let it = last_of x more in
          let whole : up ++ name ∷ [] ≡ (s ++ it.0) ++ it.1 ∷ [] = e ∙ (ap (λ (r : Names). s ++ r) it.2 ∙ sym (append_assoc s it.0 (it.1 ∷ []))) in
          absurd (no_prefix s up it.0 far (same_from_push up (s ++ it.0) name it.1 whole).0)
    ] e

-- the new path of a parent is the parent of the new path
parent_swapped : (at : Tree) (s t : Names) → IsTree at → Apart s t → Resolves at s × Resolves at t → (up : Names) (name : Name) → IsSome (at (swapped s t (up ++ name ∷ []))) → at (swapped s t up) ≡ Some Folder
parent_swapped at s t tree apart leads up name = each_way (λ (r : Names). IsSome (at (swapped s t (r ++ name ∷ []))) → at (swapped s t r) ≡ Some Folder) s t up
    (λ more some.
    let there : swapped s t ((s ++ more) ++ name ∷ []) ≡ (t ++ more) ++ name ∷ [] =
    ap (λ (r : Names). swapped s t r) (append_assoc s more (name ∷ [])) ∙ (swapped_first s t (more ++ name ∷ []) ∙ sym (append_assoc t more (name ∷ []))) in
    ap (λ (r : Names). at r) (swapped_first s t more) ∙ tree.parents (t ++ more) name (subst (λ (r : Names). IsSome (at r)) there some))
    (λ more some.
    let there : swapped s t ((t ++ more) ++ name ∷ []) ≡ (s ++ more) ++ name ∷ [] =
    ap (λ (r : Names). swapped s t r) (append_assoc t more (name ∷ [])) ∙ (swapped_second s t (more ++ name ∷ []) apart ∙ sym (append_assoc s more (name ∷ []))) in
    ap (λ (r : Names). at r) (swapped_second s t more apart) ∙ tree.parents (s ++ more) name (subst (λ (r : Names). IsSome (at r)) there some))
    (λ one two some. ap (λ (r : Names). at r) (swapped_else s t up one two) ∙ (elim (cases_Bool (is_prefix s (up ++ name ∷ []))) [
      | inl below ↦ parent_leads at up name (subst (λ (r : Names). Resolves at r) (leads_to s up name one below) leads.0)
      | inr far ↦ elim (cases_Bool (is_prefix t (up ++ name ∷ []))) [
        | inl below ↦ parent_leads at up name (subst (λ (r : Names). Resolves at r) (leads_to t up name two below) leads.1)
        | inr else ↦ tree.parents up name (subst (λ (r : Names). IsSome (at r)) (swapped_else s t (up ++ name ∷ []) far else) some)
      ]
    ]))

exchanged_tree : (at : Tree) (s t : Names) → IsTree at → (s ≡ [] → ⊥) × (t ≡ [] → ⊥) → Apart s t → Resolves at s × Resolves at t → IsTree (exchanged at s t)
exchanged_tree at s t tree low apart leads = record {
  root = exchanged_at at s t [] ∙ (ap (λ (r : Names). at r) (swapped_root s t low.0 low.1) ∙ tree.root);
  parents = λ up name some. exchanged_at at s t up ∙ parent_swapped at s t tree apart leads up name (subst (λ (o : Option Item). IsSome o) (exchanged_at at s t (up ++ name ∷ [])) some);
}

pub all_exchanged : (es new : List TreeEntry) (ps : List (Option Names)) (s t : Names) → (s ≡ [] → ⊥) × (t ≡ [] → ⊥) → Apart s t
    → ps ≡ map (λ (e : TreeEntry). exchanged_path s t e.path) es → new ≡ with_paths es ps → tree_of new ≡ exchanged (tree_of es) s t
all_exchanged es new ps s t low apart paths moves =
    ap (λ (xs : List TreeEntry). tree_of xs) (moves ∙ (ap (λ (qs : List (Option Names)). with_paths es qs) paths ∙ swapped_all s t es)) ∙ tree-swapped s t es low.0 low.1 apart

pub exchanged_lawful : (es new : List TreeEntry) (ps : List (Option Names)) (s t : Names) → IsEntryTree es → (s ≡ [] → ⊥) × (t ≡ [] → ⊥) → Apart s t → Resolves (tree_of es) s × Resolves (tree_of es) t
    → ps ≡ map (λ (e : TreeEntry). exchanged_path s t e.path) es → new ≡ with_paths es ps → IsEntryTree new
exchanged_lawful es new ps s t lawful low apart leads paths moves =
    let went : new ≡ all_swapped s t es = moves ∙ (ap (λ (qs : List (Option Names)). with_paths es qs) paths ∙ swapped_all s t es) in
    record {
      distinct = subst (λ (xs : List TreeEntry). IsDistinct xs) (sym went) (distinct_swapped s t es apart lawful.distinct);
      tree = subst (λ (at : Tree). IsTree at) (sym (all_exchanged es new ps s t low apart paths moves)) (exchanged_tree (tree_of es) s t lawful.tree low apart leads);
    }
