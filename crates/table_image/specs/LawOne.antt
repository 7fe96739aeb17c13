-- The law of an image of an earlier version, which had no periods.
use Rattle.std.specs.Prelude.{ℕ, ◌+◌, ◌<◌, ◌≡◌, ◌≢◌, Bool, List, Some, All, AllPairs, Contains, take, length, slice_index_or, count_by}
use Rattle.ledger.specs.declared.postings.Posting.{Posting}
use Rattle.ledger.specs.declared.postings.Posting.TheVariants.{Born, Entry, Back, Forget, Opening}
use Rattle.ledger.specs.Periods.{unclosed}
use Rattle.ledger.specs.Sums.{is_birth}
use Rattle.tree.specs.declared.nodes.Node.{Node}
use Rattle.tree.specs.Places.{Lookup, IsTree}
use Rattle.tree.specs.Listed.{node_at, IsDistinct}
use Rattle.table_image.specs.declared.data.ImageOne.{ImageOne}
use Rattle.table_law.specs.Law.{AreAlive, AreMarksNamed, HasPlainRoot, HaveReasons, IsCounted, IsKnownFile}
use Rattle.table_image.specs.ImageLaw.{AreApart, AreHoldsCounted, AreKnown, is_kept}

-- how often number n was born
abbrev pub births_among : ℕ → List Posting → ℕ
births_among n ps = count_by (is_birth n) ps

-- a posting may follow those before it: a birth has as its generation the number of earlier births of its number, and
-- everything else comes after the birth of its number and generation. Nothing is left of an earlier period
abbrev pub MayStandOne : List Posting → Posting → Type 0
MayStandOne before (Born n g) = g ≡ births_among n before
MayStandOne before (Entry n g) = Contains before (Born n g)
MayStandOne before (Back n g) = Contains before (Born n g)
MayStandOne before (Forget n g amount) = Contains before (Born n g)
MayStandOne before (Opening n g count) = ⊥

pub record IsOrderedOne (ps : List Posting) : Type 0 where
  pub each : (k : ℕ) (d : Posting) → k < length ps → MayStandOne (take k ps) (slice_index_or ps k d)

pub record IsLawfulOne (at : Lookup) (ps : List Posting) (kept : ℕ → Bool) : Type 0 where
  pub tree : IsTree at
  pub root : HasPlainRoot at (unclosed ps)
  pub counted : IsCounted at (unclosed ps)
  pub ordered : IsOrderedOne ps
  pub generations : (n : ℕ) (x : Node) → at n ≡ Some x → n ≢ 1 → x.generation + 1 ≡ births_among n ps
  pub marks : AreMarksNamed at
  pub alive : AreAlive at kept
  pub reasons : HaveReasons at kept

pub record IsLawfulImageOne (image : ImageOne) : Type 0 where
  pub numbers : IsDistinct image.nodes
  pub ids : AllPairs (λ r s. r.id ≢ s.id) image.records
  pub handles : AllPairs (λ f g. f.handle ≢ g.handle) image.files
  pub law : IsLawfulOne (node_at image.nodes) image.postings (is_kept image.records image.files)
  pub files : All (IsKnownFile (node_at image.nodes) image.last_handle) image.files
  pub counted : AreHoldsCounted image.holds image.records
  pub apart : AreApart image.records
  pub known : AreKnown (node_at image.nodes) image.records
