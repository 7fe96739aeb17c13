-- A cut that fails after its work has done nothing, or all.
use Rattle.std.proofs.Common.{ℕ, ◌⊎◌, inl, inr, Result, Ok, Err, sym, subst}
use Rattle.paths.specs.Prefixes.{Names}
use Rattle.backing.specs.Tree.{Tree}
use Rattle.disk.specs.declared.error.DiskError.{DiskError}
use Rattle.disk.specs.declared.error.DiskError.TheVariants.{Absent, Exists, NotFolder, IsFolder, NotEmpty, Failed}
use Rattle.disk.specs.Answers.{Stays, Cuts, CutsFile}
use Rattle.disk.specs.Faults.{Ended}

late : {H : Type 0} (at : Tree) (old : H → Names → Type 0) (q : Names) (size : ℕ) (answer : Result (Unit {0}) DiskError) (at' : Tree) (new : H → Names → Type 0) → Cuts at old q size answer at' new → Stays at old at' new ⊎ CutsFile at old q size at' new
late at old q size (Ok done) at' new it = inr it
late at old q size (Err Absent) at' new it = inl it
late at old q size (Err Exists) at' new it = inl it
late at old q size (Err NotFolder) at' new it = inl it
late at old q size (Err IsFolder) at' new it = inl it
late at old q size (Err NotEmpty) at' new it = inl it
late at old q size (Err (Failed errno)) at' new it = it

pub ended_cuts : {H : Type 0} (at : Tree) (old : H → Names → Type 0) (q : Names) (size : ℕ) (answer result : Result (Unit {0}) DiskError) (at' : Tree) (new : H → Names → Type 0) → Ended answer result → Cuts at old q size answer at' new → Cuts at old q size result at' new
ended_cuts at old q size answer result at' new (inl e) it = subst (λ (r : Result (Unit {0}) DiskError). Cuts at old q size r at' new) (sym e) it
ended_cuts at old q size answer result at' new (inr failed) it = subst (λ (r : Result (Unit {0}) DiskError). Cuts at old q size r at' new) (sym failed.1) (late at old q size answer at' new it)
