-- How a client and the server agree on a version.
use Rattle.std.specs.Prelude.{ℕ, ◌+◌, ◌*◌, ◌^◌, ◌||◌, nat_lt, min, if◌then◌else◌}
use Rattle.std.specs.Int.{bit_at}
use Rattle.wire.specs.declared.reply.InitOut.{InitOut}
use Rattle.wire.specs.declared.greeting.Negotiated.{Negotiated}
use Rattle.wire.specs.declared.greeting.Negotiated.TheVariants.{Use, Again, Refuse}

-- those of the flag bits 0, 5, 13, 18 and 22 that are offered
abbrev pub agreed_flags : ℕ → ℕ
agreed_flags flags = 2 ^ 0 * bit_at flags 0 + 2 ^ 5 * bit_at flags 5 + 2 ^ 13 * bit_at flags 13 + 2 ^ 18 * bit_at flags 18 + 2 ^ 22 * bit_at flags 22

-- with this minor version and this limit on reading ahead
abbrev pub agreement : (minor max_readahead flags : ℕ) → InitOut
agreement minor max_readahead flags = record {
  major = 7;
  minor = min minor 31;
  max_readahead = min max_readahead 65536;
  flags = agreed_flags flags;
  max_background = 12;
  congestion_threshold = 9;
  max_write = 65536;
  time_gran = 1;
  max_pages = 16 * bit_at flags 22;
}

-- the highest version, and everything else zero
abbrev pub highest : InitOut
highest = record {
  major = 7;
  minor = 31;
  max_readahead = 0;
  flags = 0;
  max_background = 0;
  congestion_threshold = 0;
  max_write = 0;
  time_gran = 0;
  max_pages = 0;
}

-- A higher major version must be offered again; versions before 7.23 are refused.
abbrev pub negotiated : (major minor max_readahead flags : ℕ) → Negotiated
negotiated major minor max_readahead flags =
    if nat_lt 7 major then Again highest else
    if nat_lt major 7 || nat_lt minor 23 then Refuse else
    Use (agreement minor max_readahead flags)
