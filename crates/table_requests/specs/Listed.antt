-- The requests in flight as a list.
use Rattle.std.specs.Prelude.{ℕ, ◌-◌, ◌<◌, ◌≡◌, ◌≢◌, ◌==◌, Bool, List, Some, Vec, AllPairs, find, sum_by, length, vec_len, vec_capacity}
use Rattle.std.specs.List.{list_any}
use Rattle.std.specs.declared.alloc.Global.{Global}
use Rattle.table_requests.specs.declared.data.RequestInFlight.{RequestInFlight}
use Rattle.table_requests.specs.RequestMaps.{RequestsInFlight, RequestMaps, files_promised, pins_number, nodes_promised, postings_promised}

-- requests, with room for more without allocating
pub record InFlight : Type 0 where
  pub flights : List RequestInFlight
  pub room : ℕ

abbrev pub in_flight : Vec RequestInFlight Global → InFlight
in_flight fs = record { flights = fs.items; room = vec_capacity fs - vec_len fs }

-- the requests by their ids
abbrev pub flight_in : List RequestInFlight → RequestsInFlight
flight_in fs id = find (λ (f : RequestInFlight). f.id == id) fs

-- whether some request pins the number
abbrev pub pinned_in : List RequestInFlight → ℕ → Bool
pinned_in fs n = list_any (λ (f : RequestInFlight). pins_number f n) fs

-- the sum of what all requests were promised
abbrev pub nodes_in : List RequestInFlight → ℕ
nodes_in fs = sum_by (λ (f : RequestInFlight). nodes_promised f.stage) fs

abbrev pub postings_in : List RequestInFlight → ℕ
postings_in fs = sum_by (λ (f : RequestInFlight). postings_promised f.stage) fs

abbrev pub files_in : List RequestInFlight → ℕ
files_in fs = sum_by (λ (f : RequestInFlight). files_promised f.stage) fs

-- all requests by their ids, with their pins and totals
unfoldable pub requests_of : InFlight → RequestMaps
requests_of all = record {
  at = flight_in all.flights;
  pinned = pinned_in all.flights;
  many = length all.flights;
  nodes = nodes_in all.flights;
  postings = postings_in all.flights;
  files = files_in all.flights;
  room = all.room;
}

-- no two have the same id
abbrev pub HaveOwnIds : List RequestInFlight → Type 0
HaveOwnIds fs = AllPairs (λ (f g : RequestInFlight). f.id ≢ g.id) fs

-- the ids of all requests are below the number
abbrev pub AreBelow : ℕ → RequestsInFlight → Type 0
AreBelow n at = (id : ℕ) (f : RequestInFlight) → at id ≡ Some f → id < n
