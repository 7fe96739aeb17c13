-- Replies that are written together.
use denote.Enum.Bare.{sameb}
use Rattle.std.proofs.Common.{ℕ, zero, suc, ◌≡◌, ◌+◌, ◌-◌, ◌<◌, ◌≤◌, ltb, Bool, true, false, not, List, [], ◌∷◌, ◌++◌, map, length, take, drop, replicate, get_or, if◌then◌else◌, Option, Some, None, refl, sym, ap, ◌∙◌, subst, append_assoc, append-nil, length-append, length-drop, take-append-drop, arith}
use Rattle.std.proofs.Math.Seq.{take-add, take-append-add}
use Rattle.std.proofs.lemmas.Bool.{ltb-false, ltb-true}
use Rattle.std.proofs.lemmas.List.{drop-map, length-map, length-replicate, length-take-le, take-append-le, take-map, take_all, take_rest}
use Rattle.std.proofs.lemmas.Grind.{flat_map-append}
use Rattle.std.specs.Io.KnownBytes.{Appends, append_known}
use Rattle.std.specs.List.{flat_map}
use Rattle.engine.specs.Batches.{bytes_of, BeginsEach, SendsEach}
use Rattle.engine.specs.Links.{counted}
use Rattle.engine.specs.contracts.links.Sent.{the_type}
use Rattle.engine.specs.declared.bytes.ReplyBytes.{ReplyBytes}
use Rattle.engine.specs.declared.links.Sent.{Sent}
use Rattle.engine.specs.declared.links.Sent.TheVariants.{Taken, Untaken, Broken}
use Rattle.engine_streams.specs.Joining.{whole_in, SendsFirst, SendsSome}
use Rattle.engine_streams.specs.Streams.{Streaming, Sends}
use Rattle.engine_streams.specs.Writing.{AppendsFirst}
use Rattle.engine.proofs.Offering.{begins_all, begins_on, begins_then}

-- the link after a reply was written
abbrev grown : Streaming → List ℕ → Streaming
grown old bytes = record old { output = append_known old.output bytes }

appended : (known : Option (List ℕ)) (bytes : List ℕ) → Appends known (append_known known bytes) bytes
appended None bytes = tt
appended (Some xs) bytes = refl

-- followed by the others
then_others : (old new : Option (List ℕ)) (first others : List ℕ) → Appends old new (first ++ others) → Appends (append_known old first) new others
then_others None new first others a = tt
then_others (Some xs) None first others a = a
then_others (Some xs) (Some ys) first others a = a ∙ sym (append_assoc xs first others)

-- a joined write that did not fail
pub all_taken : (reply : ReplyBytes) (replies : List ReplyBytes) (old new : Streaming) → Appends old.output new.output (flat_map bytes_of (reply ∷ replies)) → new ≡ record old { output = new.output }
    → BeginsEach Sends old (map bytes_of (reply ∷ replies)) (replicate (length (reply ∷ replies)) Taken) new
all_taken reply [] old new a is = (new, (subst (λ (xs : List ℕ). Appends old.output new.output xs) (append-nil (bytes_of reply)) a, is), refl)
all_taken reply (next ∷ replies) old new a is =
    let mid = grown old (bytes_of reply) in
    (mid, (appended old.output (bytes_of reply), refl), all_taken next replies mid new (then_others old.output new.output (bytes_of reply) (flat_map bytes_of (next ∷ replies)) a) is)

-- a joined write that failed
pub some_taken : (before : List ReplyBytes) (last : ReplyBytes) (more : List ReplyBytes) (written : ℕ) (old new : Streaming) → Appends old.output new.output (take written (flat_map bytes_of before ++ bytes_of last))
    → new ≡ record old { output = new.output; failures = counted old.failures 1 } → SendsEach Sends old (map bytes_of (before ++ last ∷ more)) (replicate (whole_in (map bytes_of before) written) Taken ++ Broken ∷ []) new
some_taken [] last more written old new a is = (((written, a), is), refl)
some_taken (reply ∷ before) last more written old new a is = by_length (ltb written (length (bytes_of reply))) refl (λ mid rest on same. some_taken before last more rest mid new on same) where
  written_on : Appends old.output new.output (take written (bytes_of reply ++ (flat_map bytes_of before ++ bytes_of last)))
  written_on = subst (λ (xs : List ℕ). Appends old.output new.output (take written xs)) (append_assoc (bytes_of reply) (flat_map bytes_of before) (bytes_of last)) a

  by_length : (short : Bool) → ltb written (length (bytes_of reply)) ≡ short
      → ((mid : Streaming) (rest : ℕ) → Appends mid.output new.output (take rest (flat_map bytes_of before ++ bytes_of last)) → new ≡ record mid { output = new.output; failures = counted mid.failures 1 }
      → SendsEach Sends mid (map bytes_of (before ++ last ∷ more)) (replicate (whole_in (map bytes_of before) rest) Taken ++ Broken ∷ []) new)
      → SendsEach Sends old (map bytes_of (reply ∷ before ++ last ∷ more)) (replicate (if short then 0 else suc (whole_in (map bytes_of before) (written - length (bytes_of reply)))) Taken ++ Broken ∷ []) new
  by_length true e on_from =
      let less = ltb-true written (length (bytes_of reply)) e in
      (((written, subst (λ (xs : List ℕ). Appends old.output new.output xs) (take-append-le written (bytes_of reply) (flat_map bytes_of before ++ bytes_of last) (omega arith)) written_on), is), refl)
  by_length false e on_from =
      let past = ltb-false written (length (bytes_of reply)) e in
      let rest = written - length (bytes_of reply) in
      let sum : written ≡ length (bytes_of reply) + rest = omega arith in
      let split = ap (λ (n : ℕ). take n (bytes_of reply ++ (flat_map bytes_of before ++ bytes_of last))) sum ∙ take-append-add (bytes_of reply) (flat_map bytes_of before ++ bytes_of last) rest in
      let on = then_others old.output new.output (bytes_of reply) (take rest (flat_map bytes_of before ++ bytes_of last)) (subst (λ (xs : List ℕ). Appends old.output new.output xs) split written_on) in
      (grown old (bytes_of reply), (appended old.output (bytes_of reply), refl), on_from (grown old (bytes_of reply)) rest on is)

whole_within : (frames : List (List ℕ)) (written : ℕ) → whole_in frames written ≤ length frames
whole_within [] written = omega arith
whole_within (frame ∷ frames) written = by_length (ltb written (length frame)) (whole_within frames (written - length frame)) where
  by_length : (short : Bool) → whole_in frames (written - length frame) ≤ length frames → (if short then 0 else suc (whole_in frames (written - length frame))) ≤ suc (length frames)
  by_length true h = omega arith
  by_length false h = omega arith

-- not all of those that are joined
pub whole_below : (all : List ReplyBytes) (count written whole : ℕ) → 0 < count → count ≤ length all → whole ≡ whole_in (map bytes_of (take (count - 1) all)) written → whole < length all
whole_below all count written whole some within is =
    let front = take (count - 1) all in
    let w = whole_within (map bytes_of front) written in
    let n : length (map bytes_of front) ≡ count - 1 = length-map front bytes_of ∙ length-take-le (count - 1) all (omega arith) in
    omega arith

-- ---- the first of some replies

-- a reply at that index, with those before and those after it
record Place (all : List ReplyBytes) (n : ℕ) : Type 0 where
  reply : ReplyBytes
  more : List ReplyBytes
  whole : all ≡ take n all ++ reply ∷ more
  first : take (suc n) all ≡ take n all ++ reply ∷ []

place : (all : List ReplyBytes) (n : ℕ) → n < length all → Place all n
place [] n h = absurd (omega arith)
place (reply ∷ all) zero h = record { reply = reply; more = all; whole = refl; first = refl }
place (reply ∷ all) (suc n) h = let p = place all n (omega arith) in record {
  reply = p.reply;
  more = p.more;
  whole = ap (λ (rs : List ReplyBytes). reply ∷ rs) p.whole;
  first = ap (λ (rs : List ReplyBytes). reply ∷ rs) p.first;
}

-- a single one
pub one_alone : (old new : Streaming) (all : List ReplyBytes) (reply : ReplyBytes) (before after : List Sent) (sent : Sent) (stands : Bool) → 0 < length all → reply ≡ get_or all 0 reply → Sends old (bytes_of reply) sent new
    → after ≡ before ++ sent ∷ [] → stands ≡ not (sameb the_type sent Broken) → SendsFirst old (map bytes_of all) before new after stands
one_alone old new [] reply before after sent stands some is s told e = absurd (omega arith)
one_alone old new (first ∷ all) reply before after sent stands some is s told e =
    (sent ∷ [], told, subst (λ (b : Bool). SendsSome old (map bytes_of (first ∷ all)) new (sent ∷ []) b) (sym e) (by_sent sent (subst (λ (r : ReplyBytes). Sends old (bytes_of r) sent new) is s))) where
      by_sent : (sent : Sent) → Sends old (bytes_of first) sent new → SendsSome old (map bytes_of (first ∷ all)) new (sent ∷ []) (not (sameb the_type sent Broken))
      by_sent Taken s = (omega arith, omega arith, (new, s, refl))
      by_sent Untaken s = absurd s
      by_sent Broken s = (s, refl)

-- those that are joined, all written

all_of : (replies : List ReplyBytes) (count : ℕ) (old new : Streaming) → length replies ≡ count → 0 < count → Appends old.output new.output (flat_map bytes_of replies) → new ≡ record old { output = new.output }
    → BeginsEach Sends old (map bytes_of replies) (replicate count Taken) new
all_of [] count old new len some a same = absurd (omega arith)
all_of (reply ∷ replies) count old new len some a same = subst (λ (n : ℕ). BeginsEach Sends old (map bytes_of (reply ∷ replies)) (replicate n Taken) new) len (all_taken reply replies old new a same)

pub joined_taken : (old new : Streaming) (all : List ReplyBytes) (count : ℕ) (joined : List ℕ) (before after : List Sent) → 0 < count → count ≤ length all → joined ≡ flat_map bytes_of (take count all)
    → Appends old.output new.output joined → new ≡ record old { output = new.output } → after ≡ before ++ replicate count Taken → SendsFirst old (map bytes_of all) before new after true
joined_taken old new all count joined before after some within is a same told =
    let k : length (replicate count Taken) ≡ count = length-replicate count Taken in
    let n : length (map bytes_of all) ≡ length all = length-map all bytes_of in
    let front : take (length (replicate count Taken)) (map bytes_of all) ≡ map bytes_of (take count all) = ap (λ (n : ℕ). take n (map bytes_of all)) k ∙ take-map bytes_of count all in
    let begun = all_of (take count all) count old new (length-take-le count all within) some (subst (λ (xs : List ℕ). Appends old.output new.output xs) is a) same in
    (replicate count Taken, told, (omega arith, omega arith, subst (λ (fs : List (List ℕ)). BeginsEach Sends old fs (replicate count Taken) new) (sym front) begun))

-- those that are joined, if the write failed
pub joined_broken : (old new : Streaming) (all : List ReplyBytes) (count written whole : ℕ) (joined : List ℕ) (before mid after : List Sent) → 0 < count → count ≤ length all → joined ≡ flat_map bytes_of (take count all)
    → AppendsFirst written old.output new.output joined → new ≡ record old { output = new.output; failures = counted old.failures 1 } → whole ≡ whole_in (map bytes_of (take (count - 1) all)) written
    → mid ≡ before ++ replicate whole Taken → after ≡ mid ++ Broken ∷ [] → SendsFirst old (map bytes_of all) before new after false
joined_broken old new all count written whole joined before mid after some within is a same whole_is mid_is told =
    let n = count - 1 in
    let k : suc n ≡ count = omega arith in
    let p = place all n (omega arith) in
    let joined_is : joined ≡ flat_map bytes_of (take n all) ++ bytes_of p.reply =
    is ∙ (ap (λ (i : ℕ). flat_map bytes_of (take i all)) (sym k) ∙ (ap (flat_map bytes_of) p.first ∙ (flat_map-append bytes_of (take n all) (p.reply ∷ []) ∙ ap (λ (xs : List ℕ). flat_map bytes_of (take n all) ++ xs) (append-nil (bytes_of p.reply))))) in
    let each = some_taken (take n all) p.reply p.more written old new (subst (λ (xs : List ℕ). Appends old.output new.output (take written xs)) joined_is a.appended) same in
    let sents : List Sent = replicate whole Taken ++ Broken ∷ [] in
    let sents_are : replicate (whole_in (map bytes_of (take n all)) written) Taken ++ Broken ∷ [] ≡ sents = ap (λ (i : ℕ). replicate i Taken ++ Broken ∷ []) (sym whole_is) in (
      sents,
      told ∙ (ap (λ (ss : List Sent). ss ++ Broken ∷ []) mid_is ∙ append_assoc before (replicate whole Taken) (Broken ∷ [])),
      subst (λ (rs : List ReplyBytes). SendsEach Sends old (map bytes_of rs) sents new) (sym p.whole) (subst (λ (ss : List Sent). SendsEach Sends old (map bytes_of (take n all ++ p.reply ∷ p.more)) ss new) sents_are each),
    )

-- ---- one group after another

-- what follows the first ones
pub stretch_of : (all : List ReplyBytes) (mid new : Streaming) (before after : List Sent) (from : ℕ) (stands known : Bool) → from ≡ length before → stands ≡ known
    → SendsFirst mid (map bytes_of (take (length all - from) (drop from all))) before new after stands → SendsFirst mid (map bytes_of (drop (length before) all)) before new after known
stretch_of all mid new before after from stands known is e f =
    subst (λ (b : Bool). SendsFirst mid (map bytes_of (drop (length before) all)) before new after b) e
    (subst (λ (n : ℕ). SendsFirst mid (map bytes_of (drop n all)) before new after stands) is (subst (λ (rs : List ReplyBytes). SendsFirst mid (map bytes_of rs) before new after stands) (take_rest all from) f))

-- none has broken the link
pub stretch_on : (all : List ReplyBytes) (old mid new : Streaming) (before after : List Sent) → length before ≤ length all → BeginsEach Sends old (take (length before) (map bytes_of all)) before mid
    → SendsFirst mid (map bytes_of (drop (length before) all)) before new after true → BeginsEach Sends old (take (length after) (map bytes_of all)) after new × (length after ≤ length all) × (length before < length after)
stretch_on all old mid new before after within begun f =
    let frames = map bytes_of all in
    let n = length before in
    let k = length f.0 in
    let sum : length after ≡ n + k = ap (λ (ss : List Sent). length ss) f.1 ∙ length-append before f.0 in
    let rest : length (map bytes_of (drop n all)) ≡ length all - n = length-map (drop n all) bytes_of ∙ length-drop n all in
    let some = f.2.0 in
    let fits = f.2.1 in
    let both = begins_on Sends old mid new (take n frames) (take k (map bytes_of (drop n all))) before f.0 begun f.2.2 in
    let joined : take n frames ++ take k (map bytes_of (drop n all)) ≡ take (length after) frames =
    ap (λ (fs : List (List ℕ)). take n frames ++ take k fs) (sym (drop-map bytes_of n all)) ∙ (sym (take-add n k frames) ∙ ap (λ (i : ℕ). take i frames) (sym sum)) in (
      subst (λ (ss : List Sent). BeginsEach Sends old (take (length after) frames) ss new) (sym f.1) (subst (λ (fs : List (List ℕ)). BeginsEach Sends old fs (before ++ f.0) new) joined both),
      omega arith,
      omega arith,
    )

-- one has
pub stretch_broken : (all : List ReplyBytes) (old mid new : Streaming) (before after : List Sent) → BeginsEach Sends old (take (length before) (map bytes_of all)) before mid
    → SendsFirst mid (map bytes_of (drop (length before) all)) before new after false → SendsEach Sends old (map bytes_of all) after new
stretch_broken all old mid new before after begun f =
    let frames = map bytes_of all in
    let n = length before in
    let both = begins_then Sends old mid new (take n frames) (map bytes_of (drop n all)) before f.0 begun f.2 in
    let joined : take n frames ++ map bytes_of (drop n all) ≡ frames = ap (λ (fs : List (List ℕ)). take n frames ++ fs) (sym (drop-map bytes_of n all)) ∙ take-append-drop n frames in
    subst (λ (ss : List Sent). SendsEach Sends old frames ss new) (sym f.1) (subst (λ (fs : List (List ℕ)). SendsEach Sends old fs (before ++ f.0) new) joined both)

-- all are offered
pub stretch_done : (all : List ReplyBytes) (old new : Streaming) (sents : List Sent) → length all ≤ length sents → BeginsEach Sends old (take (length sents) (map bytes_of all)) sents new → SendsEach Sends old (map bytes_of all) sents new
stretch_done all old new sents past begun =
    let frames = map bytes_of all in
    let n : length frames ≡ length all = length-map all bytes_of in
    begins_all Sends old new frames sents (subst (λ (fs : List (List ℕ)). BeginsEach Sends old fs sents new) (take_all (length sents) frames (omega arith)) begun)
