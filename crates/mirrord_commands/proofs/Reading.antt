-- What is read of a command line.
use Rattle.std.proofs.Common.{◌≡◌, Bool, true, false, codes, Option, Some, None, unwrap_or, option_map, is_some, refl, ap}
use Rattle.std.specs.Borrow.{Bor}
use Rattle.clap.specs.Words.{Text}
use Rattle.mirrord_commands.specs.CommandLine.{FlagReads, TextReads}

pub text_reads : (got : Option (Bor Text)) (none text : Bor Text) (known : Option Text) → option_map (λ (s : Bor Text). s.now) got ≡ known → text ≡ unwrap_or got none → TextReads none.now known text.now
text_reads None none text None is read = ap (λ (s : Bor Text). s.now) read
text_reads None none text (Some t) is read = cc
text_reads (Some s) none text None is read = cc
text_reads (Some s) none text (Some t) is read = cc

-- whether there is a value
pub is_told : (got : Option (Bor Text)) (known : Option Text) → option_map (λ (s : Bor Text). s.now) got ≡ known → is_some got ≡ is_some known
is_told None known is = ap is_some is
is_told (Some s) known is = ap is_some is

pub flag_reads : (known : Option Text) (flag : Bool) → (known ≡ None → flag ≡ false) → (known ≡ Some (codes "true") → flag ≡ true) → (known ≡ Some (codes "false") → flag ≡ false) → FlagReads known flag
flag_reads None flag none value other = none refl
flag_reads (Some text) flag none value other = (λ e. value (ap Some e), λ e. other (ap Some e))
