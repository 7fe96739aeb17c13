-- Which subcommand refuses a value.
use Rattle.std.proofs.Common.{◌≡◌, Bool, true, false, ◌||◌, if◌then◌else◌, Some, None, unwrap_or, List, codes, refl, subst}
use Rattle.std.specs.List.{list_any}
use Rattle.std.specs.Str.{bytes_eq}
use Rattle.clap.specs.Words.{Row, Shape, Text}
use Rattle.mirrord_commands.specs.declared.refusals.OptionsRefusal.{OptionsRefusal}
use Rattle.mirrord_commands.specs.CommandLine.{hex_app, has_option, subcommand_named, AreRefused}

-- an option that is there still is with one more before the rest
one_more : (first other rest : Bool) → (first || rest) ≡ true → (first || (other || rest)) ≡ true
one_more true other rest e = refl
one_more false true rest e = refl
one_more false false rest e = e

-- `device` and `serve` have the options of `pipe`
device_has : (id : Text) → has_option (codes "pipe") id ≡ true → has_option (codes "device") id ≡ true
device_has id e =
    let root = bytes_eq (codes "root") id in
    one_more root (bytes_eq (codes "workers") id) _ (one_more root (bytes_eq (codes "single") id) _ e)

serve_has : (id : Text) → has_option (codes "pipe") id ≡ true → has_option (codes "serve") id ≡ true
serve_has id e = one_more (bytes_eq (codes "root") id) (bytes_eq (codes "socket") id) _ (device_has id e)

-- what `pipe` refuses, they do
pub device_refuses : (rows : List Row) (refusal : OptionsRefusal) → AreRefused (codes "pipe") rows refusal → AreRefused (codes "device") rows refusal
device_refuses rows refusal r = (r.0, device_has r.0 r.1, r.2)

pub serve_refuses : (rows : List Row) (refusal : OptionsRefusal) → AreRefused (codes "pipe") rows refusal → AreRefused (codes "serve") rows refusal
serve_refuses rows refusal r = (r.0, serve_has r.0 r.1, r.2)

-- a name that is none of the others stands for `hex`
named_hex : (name : Text) → bytes_eq name (codes "serve") ≡ false → bytes_eq name (codes "pipe") ≡ false → bytes_eq name (codes "device") ≡ false → hex_app.top ≡ subcommand_named name
named_hex name serve pipe device =
    rw (serve, pipe, device)
    (elim (bytes_eq name (codes "hex")) as (λ b. hex_app.top ≡ unwrap_or (if b then Some hex_app.top else None) hex_app.top) [ true ↦ refl | false ↦ refl ])

pub hex_refuses : (name : Text) → bytes_eq name (codes "serve") ≡ false → bytes_eq name (codes "pipe") ≡ false → bytes_eq name (codes "device") ≡ false → (rows : List Row) (refusal : OptionsRefusal) → AreRefused (codes "hex") rows refusal → AreRefused name rows refusal
hex_refuses name serve pipe device rows refusal r =
    (r.0, subst (λ (s : Shape). list_any (λ rule. bytes_eq rule.id r.0) s.rules ≡ true) (named_hex name serve pipe device) r.1, r.2)
