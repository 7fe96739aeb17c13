-- Replies that are offered one after another.
use denote.Enum.Bare.{sameb}
use Rattle.std.proofs.Common.{ℕ, true, false, ◌≡◌, ◌+◌, ◌<◌, ◌≤◌, List, [], ◌∷◌, ◌++◌, map, length, take, drop, get_or, refl, sym, ap, ◌∙◌, subst, append-nil, take-append-drop}
use Rattle.std.proofs.lemmas.List.{drop_more, map-append, take_all, take_more}
use Rattle.engine.specs.Batches.{bytes_of, BeginsEach, SendsEach}
use Rattle.engine.specs.contracts.links.Sent.{the_type}
use Rattle.engine.specs.declared.bytes.ReplyBytes.{ReplyBytes}
use Rattle.engine.specs.declared.links.Sent.{Sent}
use Rattle.engine.specs.declared.links.Sent.TheVariants.{Taken, Untaken, Broken}

-- the link is not broken
abbrev pub Stands : Sent → Type 0
Stands Taken = Unit {0}
Stands Untaken = Unit {0}
Stands Broken = ⊥

pub stands_of : (sent : Sent) → false ≡ sameb the_type sent Broken → Stands sent
stands_of Taken e = tt
stands_of Untaken e = tt
stands_of Broken e = cc

pub broken_of : (sent : Sent) → true ≡ sameb the_type sent Broken → sent ≡ Broken
broken_of Taken e = cc
broken_of Untaken e = cc
broken_of Broken e = refl

module _ {L : Type 0} (sends : L → List ℕ → Sent → L → Type 0) where
  -- only one
  pub begins_one : (old new : L) (frame : List ℕ) (sent : Sent) → sends old frame sent new → Stands sent → BeginsEach sends old (frame ∷ []) (sent ∷ []) new
  begins_one old new frame Taken s stands = (new, s, refl)
  begins_one old new frame Untaken s stands = (new, s, refl)
  begins_one old new frame Broken s stands = absurd stands

  -- some, and then more
  pub begins_on : (old mid new : L) (frames more : List (List ℕ)) (sents others : List Sent) → BeginsEach sends old frames sents mid → BeginsEach sends mid more others new
      → BeginsEach sends old (frames ++ more) (sents ++ others) new
  begins_on old mid new [] more [] others b on = subst (λ (l : L). BeginsEach sends l more others new) b on
  begins_on old mid new [] more (sent ∷ sents) others b on = absurd b
  begins_on old mid new (frame ∷ frames) more [] others b on = absurd b
  begins_on old mid new (frame ∷ frames) more (Taken ∷ sents) others b on = (b.0, b.1, begins_on b.0 mid new frames more sents others b.2 on)
  begins_on old mid new (frame ∷ frames) more (Untaken ∷ sents) others b on = (b.0, b.1, begins_on b.0 mid new frames more sents others b.2 on)
  begins_on old mid new (frame ∷ frames) more (Broken ∷ sents) others b on = absurd b

  -- some, and then all the rest
  pub begins_then : (old mid new : L) (frames more : List (List ℕ)) (sents others : List Sent) → BeginsEach sends old frames sents mid → SendsEach sends mid more others new
      → SendsEach sends old (frames ++ more) (sents ++ others) new
  begins_then old mid new [] more [] others b on = subst (λ (l : L). SendsEach sends l more others new) b on
  begins_then old mid new [] more (sent ∷ sents) others b on = absurd b
  begins_then old mid new (frame ∷ frames) more [] others b on = absurd b
  begins_then old mid new (frame ∷ frames) more (Taken ∷ sents) others b on = (b.0, b.1, begins_then b.0 mid new frames more sents others b.2 on)
  begins_then old mid new (frame ∷ frames) more (Untaken ∷ sents) others b on = (b.0, b.1, begins_then b.0 mid new frames more sents others b.2 on)
  begins_then old mid new (frame ∷ frames) more (Broken ∷ sents) others b on = absurd b

  -- all of them
  pub begins_all : (old new : L) (frames : List (List ℕ)) (sents : List Sent) → BeginsEach sends old frames sents new → SendsEach sends old frames sents new
  begins_all old new frames sents b =
      subst (λ (fs : List (List ℕ)). SendsEach sends old fs sents new) (append-nil frames) (subst (λ (ss : List Sent). SendsEach sends old (frames ++ []) ss new) (append-nil sents) (begins_then old new new frames [] sents [] b refl))

  -- the one after them breaks the link
  pub begins_broken : (old mid new : L) (frames : List (List ℕ)) (frame : List ℕ) (more : List (List ℕ)) (sents : List Sent) → BeginsEach sends old frames sents mid → sends mid frame Broken new
      → SendsEach sends old (frames ++ frame ∷ more) (sents ++ Broken ∷ []) new
  begins_broken old mid new frames frame more sents b s = begins_then old mid new frames (frame ∷ more) sents (Broken ∷ []) b (s, refl)

  -- the same of replies, one after another

  pub one_more : (old mid new : L) (all : List ReplyBytes) (i : ℕ) (reply : ReplyBytes) (sents sents' : List Sent) (sent : Sent) → i < length all → reply ≡ get_or all i reply
      → BeginsEach sends old (map bytes_of (take i all)) sents mid → sends mid (bytes_of reply) sent new → Stands sent → sents' ≡ sents ++ sent ∷ [] → BeginsEach sends old (map bytes_of (take (i + 1) all)) sents' new
  one_more old mid new all i reply sents sents' sent within is b s stands more =
      let taken : take (i + 1) all ≡ take i all ++ reply ∷ [] = take_more all i reply within ∙ ap (λ (r : ReplyBytes). take i all ++ r ∷ []) (sym is) in
      let frames : map bytes_of (take (i + 1) all) ≡ map bytes_of (take i all) ++ bytes_of reply ∷ [] = ap (map bytes_of) taken ∙ map-append bytes_of (take i all) (reply ∷ []) in
      subst (λ (fs : List (List ℕ)). BeginsEach sends old fs sents' new) (sym frames) (subst (λ (ss : List Sent). BeginsEach sends old (map bytes_of (take i all) ++ bytes_of reply ∷ []) ss new) (sym more)
      (begins_on old mid new (map bytes_of (take i all)) (bytes_of reply ∷ []) sents (sent ∷ []) b (begins_one mid new (bytes_of reply) sent s stands)))

  pub one_breaks : (old mid new : L) (all : List ReplyBytes) (i : ℕ) (reply : ReplyBytes) (sents sents' : List Sent) → i < length all → reply ≡ get_or all i reply
      → BeginsEach sends old (map bytes_of (take i all)) sents mid → sends mid (bytes_of reply) Broken new → sents' ≡ sents ++ Broken ∷ [] → SendsEach sends old (map bytes_of all) sents' new
  one_breaks old mid new all i reply sents sents' within is b s more =
      let left : drop i all ≡ reply ∷ drop (i + 1) all = drop_more all i reply within ∙ ap (λ (r : ReplyBytes). r ∷ drop (i + 1) all) (sym is) in
      let whole : all ≡ take i all ++ reply ∷ drop (i + 1) all = sym (take-append-drop i all) ∙ ap (λ (rs : List ReplyBytes). take i all ++ rs) left in
      let frames : map bytes_of all ≡ map bytes_of (take i all) ++ bytes_of reply ∷ map bytes_of (drop (i + 1) all) = ap (map bytes_of) whole ∙ map-append bytes_of (take i all) (reply ∷ drop (i + 1) all) in
      subst (λ (fs : List (List ℕ)). SendsEach sends old fs sents' new) (sym frames) (subst (λ (ss : List Sent). SendsEach sends old (map bytes_of (take i all) ++ bytes_of reply ∷ map bytes_of (drop (i + 1) all)) ss new) (sym more)
      (begins_broken old mid new (map bytes_of (take i all)) (bytes_of reply) (map bytes_of (drop (i + 1) all)) sents b s))

  pub all_done : (old new : L) (all : List ReplyBytes) (i : ℕ) (sents : List Sent) → length all ≤ i → BeginsEach sends old (map bytes_of (take i all)) sents new → SendsEach sends old (map bytes_of all) sents new
  all_done old new all i sents past b = begins_all old new (map bytes_of all) sents (subst (λ (rs : List ReplyBytes). BeginsEach sends old (map bytes_of rs) sents new) (take_all i all past) b)
