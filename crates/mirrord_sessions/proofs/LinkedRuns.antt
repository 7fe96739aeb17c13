-- Sessions on a folder of a disk: what is known until a LINK is granted.
use Rattle.std.proofs.Common.{ℕ, ◌≡◌, ◌||◌, Bool, true, false, List, [], ◌∷◌, ◌++◌, None, refl, sym, ap, ◌∙◌, inl, inr}
use Rattle.std.proofs.lemmas.Bool.{or_from}
use Rattle.backing.specs.Calls.{Asked}
use Rattle.backing.specs.Device.{Counted, counted, faulty}
use Rattle.backing.specs.KnownTreeLemmas.{counted_none, counted_on}
use Rattle.backing.specs.declared.call.Answer.{Answer}
use Rattle.disk_folder.specs.Gives.{Claims, Gives as FolderGives, is_granted}
use Rattle.engine.specs.Known.{KnownRun, faults_in}
use Rattle.engine.specs.Serving.{Gives, Makes, Traffic, made_of, turns_of}
use Rattle.engine.proofs.Runs.{chain_append}
use Rattle.engine.specs.declared.ends.SessionEnd.{SessionEnd}
use Rattle.mirrord_sessions.specs.Folders.{failures_of, tree_in, ServesOn}
use Rattle.mirrord_sessions.specs.Linked.{KnownUntil, before_link, unless_granted}
use Rattle.mirrord_sessions.specs.Sessions.{calls_made, ServesLink}
use Rattle.ops.specs.Scripts.{Made}
use Rattle.terms.specs.declared.terms.Terms.{Terms}

-- no calls
none_known : {D : Type 0} (disk : Claims D) (old : D × ℕ × Bool) → KnownRun None (tree_in disk) failures_of old [] old
none_known disk old = record { devices = []; on_tree = refl; counts = sym (counted_none (failures_of old)) }

-- one call more, before the others
one_more : {D : Type 0} (disk : Claims D) (old mid last : D × ℕ × Bool) (made : Made) (kept : List Made)
    → Counted None (tree_in disk old) (failures_of old) made.call made.answer (tree_in disk mid) (failures_of mid) → KnownRun None (tree_in disk) failures_of mid kept last → KnownRun None (tree_in disk) failures_of old (made ∷ kept) last
one_more disk old mid last made kept first rest = record {
  devices = first.0 ∷ rest.devices;
  on_tree = (tree_in disk mid, first.1, rest.on_tree);
  counts = rest.counts ∙ (ap (λ (n : ℕ). counted n (faults_in rest.devices)) first.2 ∙ counted_on (failures_of old) (faulty first.0) (faults_in rest.devices));
}

-- whether or not the first call was a LINK that was granted
known_first : {D : Type 0} (disk : Claims D) → disk.honest → (old mid new : D × ℕ × Bool) (made : Made) (more kept : List Made) (granted : Bool)
    → old.2 ≡ false → is_granted made.call made.answer ≡ granted → FolderGives disk old made.call made.answer mid
    → Makes (FolderGives disk) mid more new → (mid.2 ≡ false → KnownUntil (FolderGives disk) None (tree_in disk) failures_of mid kept more new)
    → KnownUntil (FolderGives disk) None (tree_in disk) failures_of old (unless_granted granted made kept) (made ∷ more) new
known_first disk honest old mid new made more kept true unlinked is given makes rest = record {
  last = old;
  run = none_known disk old;
  rest = made ∷ more;
  whole = refl;
  goes_on = (mid, given, makes);
}
known_first disk honest old mid new made more kept false unlinked is given makes rest =
    let still = given.linked ∙ or_from old.2 (is_granted made.call made.answer) unlinked is in
    let later = rest still in
    record {
      last = later.last;
      run = one_more disk old mid later.last made kept (given.known honest still) later.run;
      rest = later.rest;
      whole = ap (λ (list : List Made). made ∷ list) later.whole;
      goes_on = later.goes_on;
    }

pub known_until : {D : Type 0} (disk : Claims D) → disk.honest → (old new : D × ℕ × Bool) (made : List Made) → old.2 ≡ false → Makes (FolderGives disk) old made new → KnownUntil (FolderGives disk) None (tree_in disk) failures_of old (before_link made) made new
known_until disk honest old new [] unlinked makes = record { last = old; run = none_known disk old; rest = []; whole = refl; goes_on = makes }
known_until disk honest old new (made ∷ more) unlinked makes =
    known_first disk honest old makes.0 new made more (before_link more) (is_granted made.call made.answer) unlinked refl makes.1 makes.2 (λ still. known_until disk honest makes.0 new more still makes.2)

-- a folder of any disk, and what is known of it where the disk is honest
pub served_on : {L D : Type 0} (disk : Claims D) (terms : Terms) (link : Traffic L) (first left : D × ℕ × Bool) (old : L) (over : SessionEnd) (new : L) → ServesLink terms link (FolderGives disk) first left old over new → ServesOn disk terms link first left old over new
served_on {D = D} disk terms link first left old over new (inl served) =
    let made = made_of (turns_of served.run.client.steps) in
    inl (record {
      served = served;
      known = λ honest unlinked. known_until disk honest first left (calls_made served) unlinked (chain_append (Gives (FolderGives disk)) first served.run.left.calls left made served.run.removal.removals served.run.client.draws.makes served.run.removal.makes);
    })
served_on disk terms link first left old over new (inr none) = inr none
