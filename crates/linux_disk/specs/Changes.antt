-- What is set, as the C library takes it.
use Rattle.std.specs.Prelude.{ℕ, pos, ◌==◌, ◌-◌, ◌^◌, Option, Some, None, nat_lt, if◌then◌else◌}
use Rattle.std.specs.Int.{w64, cast_signed}
use Rattle.backing.specs.declared.call.NewTime.{NewTime}
use Rattle.backing.specs.declared.call.NewTime.TheVariants.{Now, At}
use Rattle.libc.specs.declared.types.timespec.{timespec}

-- 2^32 - 1 says that the owner stays, and is no owner
abbrev pub owner_number : Option ℕ → Option ℕ
owner_number None = Some (2 ^ 32 - 1)
owner_number (Some number) = if number == 2 ^ 32 - 1 then None else Some number

-- 2^30 - 2 nanoseconds say that the time stays, and 2^30 - 1 that it is the present
abbrev pub time_words : Option NewTime → Option timespec
time_words None = Some (record { tv_sec = pos 0; tv_nsec = pos 1073741822 })
time_words (Some Now) = Some (record { tv_sec = pos 0; tv_nsec = pos 1073741823 })
time_words (Some (At time)) = if nat_lt time.nanos 1000000000 then Some (record { tv_sec = cast_signed w64 time.seconds; tv_nsec = pos time.nanos }) else None
