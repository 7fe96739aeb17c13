-- Writing an error number and reading it back.
use Rattle.std.proofs.Common.{ℤ, ap, inl, inr, to_z, of_z, w32}
use Rattle.paths.specs.Prefixes.{Names}
use Rattle.tree.specs.Places.{Lookup}
use Rattle.table_footprints.specs.Asked.{IsMisplaced, IsRefusedAt, IsRefusedBetween, IsRefusedMove, IsUnsound, long, misplaced, no_memory, stale}
use Rattle.table_footprints.specs.Footprints.{Change, Footprint, Location, cuts, exchanges, hides, moves, replaces, stays}
use Rattle.table_steps.specs.Steps.{IsRefusal, bad_handle, crowded, full, unsound}
use Rattle.table_steps.specs.World.{World}

abbrev bits : ℤ → ℤ
bits e = to_z w32 (of_z w32 e)

refused_bits : (p q : Names) (e : ℤ) → IsRefusedMove p q e → IsRefusedMove p q (bits e)
refused_bits p q e (inl (is, prefix)) = inl (ap bits is, prefix)
refused_bits p q e (inr (is, prefix)) = inr (ap bits is, prefix)

refused_at_bits : (at : Lookup) (source target : Location) (e : ℤ) → IsRefusedAt at source target e → IsRefusedAt at source target (bits e)
refused_at_bits at source target e it = record { path = it.path; leads = it.leads; new_path = it.new_path; new_leads = it.new_leads; refused = refused_bits it.path it.new_path e it.refused }

refused_between_bits : (at : Lookup) (source target : Location) (e : ℤ) → IsRefusedBetween at source target e → IsRefusedBetween at source target (bits e)
refused_between_bits at source target e it = record { path = it.path; leads = it.leads; new_path = it.new_path; new_leads = it.new_leads; refused = (ap bits it.refused.0, it.refused.1) }

misplaced_bits : (at : Lookup) (c : Change) (e : ℤ) → IsMisplaced at c e → IsMisplaced at c (bits e)
misplaced_bits at stays e bad = bad
misplaced_bits at (cuts l) e bad = bad
misplaced_bits at (moves source target) e it = refused_at_bits at source target e it
misplaced_bits at (exchanges source target) e it = refused_between_bits at source target e it
misplaced_bits at (hides l candidate) e it = refused_at_bits at l candidate e it
misplaced_bits at (replaces source target candidate moved) e (inl it) = inl (refused_at_bits at source target e it)
misplaced_bits at (replaces source target candidate moved) e (inr it) = inr (refused_at_bits at target candidate e it)

unsound_bits : (at : Lookup) (d : Footprint) (e : ℤ) → IsUnsound at d e → IsUnsound at d (bits e)
unsound_bits at d e (stale is why) = stale (ap bits is) why
unsound_bits at d e (long is a why) = long (ap bits is) a why
unsound_bits at d e (misplaced a b why) = misplaced a b (misplaced_bits at d.done e why)
unsound_bits at d e (no_memory is a) = no_memory (ap bits is) a

pub refusal_bits : (w : World) (d : Footprint) (e : ℤ) → IsRefusal w d e → IsRefusal w d (to_z w32 (of_z w32 e))
refusal_bits w d e (bad_handle is why) = bad_handle (ap bits is) why
refusal_bits w d e (unsound a why) = unsound a (unsound_bits w.at d e why)
refusal_bits w d e (full is a b why) = full (ap bits is) a b why
refusal_bits w d e (crowded is a b c why) = crowded (ap bits is) a b c why
