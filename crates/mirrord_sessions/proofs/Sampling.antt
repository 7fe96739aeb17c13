-- The tree after the sample names were added.
use Rattle.std.proofs.Common.{ℕ, ◌≡◌, Bool, true, false, if◌then◌else◌, List, [], ◌∷◌, codes, Option, Some, None, Ok, inl, inr, refl, ap, ◌∙◌}
use Rattle.paths.specs.Prefixes.{Names}
use Rattle.backing.specs.Calls.{AskMake, AskMakeDir, AskWrite, Works, memory_limit}
use Rattle.backing.specs.Entries.{tree_of}
use Rattle.backing.specs.Files.{written}
use Rattle.backing.specs.Memory.{PutsDir, PutsFile}
use Rattle.backing.specs.Tree.{Tree, is_path, with_item}
use Rattle.backing.specs.declared.call.Answer.TheVariants.{Done, Wrote}
use Rattle.backing.specs.declared.entries.Item.{Item}
use Rattle.backing.specs.declared.entries.Item.TheVariants.{Folder, File}
use Rattle.mirrord_sessions.specs.Samples.{bare, samples}

-- the same is at each path
abbrev Same : Tree → Tree → Type 0
Same s t = (path : Names) → s path ≡ t path

same_with : (s t : Tree) (p : Names) (item : Item) → Same s t → Same (with_item s p item) (with_item t p item)
same_with s t p item same path = ap (λ (o : Option Item). if is_path p path then Some item else o) (same path)

last_counts : (b : Bool) (first last other : Option Item) → (if b then last else (if b then first else other)) ≡ (if b then last else other)
last_counts true first last other = refl
last_counts false first last other = refl

made_file : (old new : Tree) (p : Names) → Works memory_limit old (AskMake p None) Done new → new ≡ with_item old p (File [])
made_file old new p (inl (passes, (done, is))) = is
made_file old new p (inr (errno, refuses, told, same)) = cc

made_dir : (old new : Tree) (p : Names) → Works memory_limit old (AskMakeDir p None) Done new → new ≡ with_item old p Folder
made_dir old new p (inl (passes, (done, is))) = is
made_dir old new p (inr (errno, refuses, told, same)) = cc

wrote_none : (old new : Tree) (p : Names) (n : ℕ) → Works memory_limit old (AskWrite p 0 []) (Wrote n) new → new ≡ old
wrote_none old new p n (inl (passes, (wrote, is))) = is
wrote_none old new p n (inr (errno, refuses, told, same)) = same

wrote : (old new : Tree) (p : Names) (n byte : ℕ) (piece : List ℕ) → old p ≡ Some (File []) → Works memory_limit old (AskWrite p 0 (byte ∷ piece)) (Wrote n) new
    → new ≡ with_item old p (File (written [] 0 (byte ∷ piece)))
wrote old new p n byte piece stood (inl (passes, (told, (bytes, stands, is)))) =
    let empty : bytes ≡ [] = cc in
    is ∙ ap (λ (xs : List ℕ). with_item old p (File (written xs 0 (byte ∷ piece)))) empty
wrote old new p n byte piece stood (inr (errno, refuses, told, same)) = cc

put_a : (old new : Tree) → PutsFile old (codes "a" ∷ []) (codes "abc") (Ok tt) new → Same new (with_item old (codes "a" ∷ []) (File (codes "abc")))
put_a old new (mid, made, (n, wrote_last)) path =
    let p : Names = codes "a" ∷ [] in
    let is = made_file old mid p made in
    let stood : mid p ≡ Some (File []) = ap (λ (t : Tree). t p) is in
    let became = wrote mid new p n 97 (codes "bc") stood wrote_last in
    ap (λ (t : Tree). t path) became
    ∙ (ap (λ (t : Tree). with_item t p (File (codes "abc")) path) is
    ∙ last_counts (is_path p path) (Some (File [])) (Some (File (codes "abc"))) (old path))

put_e : (old new : Tree) (p : Names) → PutsFile old p [] (Ok tt) new → new ≡ with_item old p (File [])
put_e old new p (mid, made, (n, wrote_last)) = wrote_none mid new p n wrote_last ∙ made_file old mid p made

-- adding the three names, one after another
pub put_all : (start one two three : Tree) → Same start bare
    → PutsFile start (codes "a" ∷ []) (codes "abc") (Ok tt) one
    → PutsDir one (codes "d" ∷ []) (Ok tt) two
    → PutsFile two (codes "e" ∷ []) [] (Ok tt) three
    → (path : Names) → three path ≡ samples path
put_all start one two three none first second third path =
    let p : Names = codes "a" ∷ [] in
    let q : Names = codes "d" ∷ [] in
    let r : Names = codes "e" ∷ [] in
    let abc = File (codes "abc") in
    let in_one : Same one (with_item bare p abc) = λ at. put_a start one first at ∙ same_with start bare p abc none at in
    let in_two : Same two (with_item (with_item bare p abc) q Folder) = λ at. ap (λ (t : Tree). t at) (made_dir one two q second) ∙ same_with one (with_item bare p abc) q Folder in_one at in
    ap (λ (t : Tree). t path) (put_e two three r third) ∙ same_with two (with_item (with_item bare p abc) q Folder) r (File []) in_two path

-- A tree without entries has only its root.
pub empty_is_bare : (path : Names) → tree_of [] path ≡ bare path
empty_is_bare [] = refl
empty_is_bare (name ∷ below) = refl
