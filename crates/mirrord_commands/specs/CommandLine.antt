-- The command line, as clap reads it.
use Rattle.std.specs.Prelude.{ℕ, ◌≡◌, ◌≢◌, ◌<◌, ◌≤◌, ◌^◌, bytes_eq, ◌⊎◌, pos, Bool, true, false, is_some, List, [], ◌∷◌, codes, Option, Some, None, unwrap_or}
use Rattle.std.specs.List.{find, list_any}
use Rattle.std.specs.Str.Parse.{IsNumeral, without_leading_plus, digits_value}
use Rattle.clap.specs.Words.{App, Row, Rule, Shape, Text, first_of, new_app, new_rule, one_of, with_rule, with_subcommand}
use Rattle.clap.specs.declared.builder.action.ArgAction.TheVariants.{Set, SetTrue}
use Rattle.clap.specs.declared.builder.value_parser.ValueParser.TheVariants.{Signed}
use Rattle.terms.specs.declared.settings.Settings.{Settings}
use Rattle.terms.specs.declared.settings.AttributeSource.{AttributeSource}
use Rattle.terms.specs.declared.settings.AttributeSource.TheVariants.{Fixed, Host}
use Rattle.terms.specs.declared.settings.Names.{Names}
use Rattle.terms.specs.declared.settings.Names.TheVariants as names
use Rattle.terms.specs.declared.settings.Kinds.{Kinds}
use Rattle.terms.specs.declared.settings.Kinds.TheVariants.{Plain, All}
use Rattle.terms.specs.declared.terms.Bounds.{Bounds}
use Rattle.terms.specs.declared.terms.Terms.{Terms}
use Rattle.mirrord_commands.specs.declared.options.Options.{Options}
use Rattle.mirrord_commands.specs.declared.options.Options.TheVariants.{Serve, Pipe, Device, Hex, Refused}
use Rattle.mirrord_commands.specs.declared.refusals.OptionsRefusal.{OptionsRefusal}
use Rattle.mirrord_commands.specs.declared.refusals.OptionsRefusal.TheVariants.{Attributes, Owner}
use Rattle.mirrord_commands.specs.declared.refusals.OptionsRefusal.TheVariants as refusals
use Rattle.terms.specs.declared.limits.Counts.{Counts}
use Rattle.terms.specs.declared.limits.Counts.TheVariants.{Bounded, Free}

-- ---- what may be written

-- a required option that takes a text
abbrev pub text_rule : Text → Rule
text_rule id = record (new_rule id) { long = Some id; action = Some Set; value_names = 1; required = true }

-- an option that takes a number and has a default
abbrev pub number_rule : Text → (least most : ℕ) → (default : Text) → Rule
number_rule id least most default = record (new_rule id) {
  long = Some id;
  action = Some Set;
  value_names = 1;
  parser = Some (Signed (pos least) (pos most));
  defaults = default ∷ [];
}

-- a user or a group, which is optional
abbrev pub user : Text → Rule
user id = record (new_rule id) { long = Some id; action = Some Set; value_names = 1; parser = Some (Signed (pos 0) (pos 4294967295)) }

-- an option that takes a word and has a default
abbrev pub word_rule : Text → (default : Text) → Rule
word_rule id default = record (new_rule id) { long = Some id; action = Some Set; value_names = 1; defaults = default ∷ [] }

-- whose attributes are reported
abbrev pub attributes_rule : (default : Text) → Rule
attributes_rule default = word_rule (codes "attributes") default

-- a flag
abbrev pub flag_rule : Text → Rule
flag_rule id = record (new_rule id) { long = Some id; action = Some SetTrue }

-- the flag `--single`, which is `-s` too
abbrev pub single_rule : Rule
single_rule = record (flag_rule (codes "single")) { short = Some 115 }

-- with an option for how many postings a period of the ledger may have
abbrev pub bounded : App → App
bounded app = with_rule app (number_rule (codes "postings") 1 4294967295 (codes "1048576"))

-- with options for how many nodes, open files and requests there may be
abbrev pub limited : (nodes files : Text) → App → App
limited nodes files app = with_rule (with_rule (with_rule app (number_rule (codes "nodes") 2 16777216 nodes)) (number_rule (codes "files") 1 1048576 files)) (number_rule (codes "requests") 1 65536 (codes "64"))

-- with an option for what bounds the lookup counts
abbrev pub counted : (how : Text) → App → App
counted how app = with_rule app (word_rule (codes "counts") how)

-- with an option for which kinds of files are shown
abbrev pub shown : (kinds : Text) → App → App
shown kinds app = with_rule app (word_rule (codes "kinds") kinds)

-- with an option for which names are taken and shown
abbrev pub named : (names : Text) → App → App
named names app = with_rule app (word_rule (codes "names") names)

-- the subcommands
abbrev pub hex_app : App
hex_app = bounded (shown (codes "files") (with_rule (new_app (codes "hex")) (flag_rule (codes "sample"))))

-- with options for whose attributes are reported, and for a user and a group
abbrev pub owned : (attributes : Text) → App → App
owned attributes app = with_rule (with_rule (with_rule app (attributes_rule attributes)) (user (codes "uid"))) (user (codes "gid"))

-- with options for all settings of a session but its kinds and names, and these defaults
abbrev pub served : (attributes nodes files counts : Text) → App → App
served attributes nodes files counts app = bounded (counted counts (limited nodes files (owned attributes app)))

-- for a client of any kind
abbrev pub served_any : App → App
served_any app = served (codes "fixed") (codes "65536") (codes "4096") (codes "bounded") (named (codes "text") (shown (codes "files") app))

-- for a kernel, which knows all kinds of files and any names, respects owners and modes, and forgets lookups late
abbrev pub served_kernel : App → App
served_kernel app = served (codes "host") (codes "1048576") (codes "65536") (codes "free") (named (codes "bytes") (shown (codes "all") app))

abbrev pub pipe_app : App
pipe_app = served_any (with_rule (new_app (codes "pipe")) (text_rule (codes "root")))

-- with options for how many threads work on requests
abbrev pub staffed : App → App
staffed app = with_rule (with_rule app (number_rule (codes "workers") 1 4 (codes "2"))) single_rule

abbrev pub serve_app : App
serve_app = served_any (staffed (with_rule (with_rule (new_app (codes "serve")) (text_rule (codes "root"))) (text_rule (codes "socket"))))

abbrev pub device_app : App
device_app = served_kernel (staffed (with_rule (new_app (codes "device")) (text_rule (codes "root"))))

-- the program with an option for its version, and without its subcommands
abbrev pub bare_app : App
bare_app = record (new_app (codes "mirrord")) {
  top = record (new_app (codes "mirrord")).top { has_version = true; subcommand_required = true; arg_required_else_help = true };
}

-- with the subcommands that serve a folder to a client over a stream
abbrev pub stream_app : App
stream_app = with_subcommand (with_subcommand bare_app serve_app.top) pipe_app.top

abbrev pub mirrord_app : App
mirrord_app = with_subcommand (with_subcommand stream_app device_app.top) hex_app.top

-- ---- what a command line asks for

-- the value of an option: its text, or this one if there is none
abbrev pub TextReads : (none : Text) → Option Text → Text → Type 0
TextReads none None text = text ≡ none
TextReads none (Some t) text = text ≡ t

abbrev pub IsText : Text → List Row → Text → Type 0
IsText id rows = TextReads [] (first_of id rows)

-- a text that spells a number of 32 bits
abbrev pub IsSpelt : Text → Type 0
IsSpelt text = IsNumeral 10 (without_leading_plus text) × (digits_value 10 (without_leading_plus text) < 2 ^ 32)

-- a text spells this number
pub record Spells (text : Text) (n : ℕ) : Type 0 where
  pub spelt : IsSpelt text
  pub value : n ≡ digits_value 10 (without_leading_plus text)

-- the text of an option that takes a number; one that was not given, as a user or a group, is 0
abbrev pub IsNumberText : Text → List Row → Text → Type 0
IsNumberText id rows = TextReads (codes "0") (first_of id rows)

-- the value of an option that takes a number: the number that its text spells
abbrev pub IsNumber : Text → List Row → ℕ → Type 0
IsNumber id rows n = (text : Text) × IsNumberText id rows text × Spells text n

-- the options that take a number
abbrev pub takes_number : Text → Bool
takes_number id = list_any (λ name. bytes_eq id name) (codes "nodes" ∷ codes "files" ∷ codes "requests" ∷ codes "postings" ∷ codes "uid" ∷ codes "gid" ∷ codes "workers" ∷ [])

-- the value of a flag
abbrev pub FlagReads : Option Text → Bool → Type 0
FlagReads None flag = flag ≡ false
FlagReads (Some text) flag = (text ≡ codes "true" → flag ≡ true) × (text ≡ codes "false" → flag ≡ false)

abbrev pub IsFlag : Text → List Row → Bool → Type 0
IsFlag id rows = FlagReads (one_of id rows)

-- what bounds the lookup counts
abbrev pub AreCounts : List Row → Counts → Type 0
AreCounts rows Bounded = IsText (codes "counts") rows (codes "bounded")
AreCounts rows Free = IsText (codes "counts") rows (codes "free")

-- how many threads serve: 1 to 4
pub record AreWorkers (rows : List Row) (workers : ℕ) : Type 0 where
  pub number : IsNumber (codes "workers") rows workers
  pub least : 1 ≤ workers
  pub most : workers ≤ 4

-- how far the table may grow
pub record AreBounds (rows : List Row) (bounds : Bounds) : Type 0 where
  pub nodes : IsNumber (codes "nodes") rows bounds.nodes
  pub files : IsNumber (codes "files") rows bounds.files
  pub requests : IsNumber (codes "requests") rows bounds.requests
  pub postings : IsNumber (codes "postings") rows bounds.postings
  pub counts : AreCounts rows bounds.counts

-- whether an option without a default was given
abbrev pub is_given : Text → List Row → Bool
is_given id rows = is_some (first_of id rows)

-- whose attributes are reported: fixed ones with an owner, by default user 0 and group 0; or those of the host, which
-- have their own owners
abbrev pub AreAttributes : List Row → AttributeSource → Type 0
AreAttributes rows (Fixed uid gid) = IsText (codes "attributes") rows (codes "fixed") × IsNumber (codes "uid") rows uid × IsNumber (codes "gid") rows gid
AreAttributes rows Host = IsText (codes "attributes") rows (codes "host") × (is_given (codes "uid") rows ≡ false) × (is_given (codes "gid") rows ≡ false)

-- which kinds of files are shown
abbrev pub AreKinds : List Row → Kinds → Type 0
AreKinds rows Plain = IsText (codes "kinds") rows (codes "files")
AreKinds rows All = IsText (codes "kinds") rows (codes "all")

-- which names are taken and shown
abbrev pub AreNames : List Row → Names → Type 0
AreNames rows names.Text = IsText (codes "names") rows (codes "text")
AreNames rows names.Bytes = IsText (codes "names") rows (codes "bytes")

-- what is shown of the folder
pub record AreSettings (rows : List Row) (settings : Settings) : Type 0 where
  pub attributes : AreAttributes rows settings.attributes
  pub kinds : AreKinds rows settings.kinds
  pub names : AreNames rows settings.names

-- why the value of an option is refused: attributes, kinds, names or counts are neither of their two words, attributes are those of the
-- host although an owner is given, a number is none, or the threads are not 1 to 4
abbrev pub IsValueRefused : (id : Text) → List Row → OptionsRefusal → Type 0
IsValueRefused id rows Attributes = (id ≡ codes "attributes") × (text : Text) × IsText id rows text × (text ≢ codes "fixed") × (text ≢ codes "host")
IsValueRefused id rows refusals.Kinds = (id ≡ codes "kinds") × (text : Text) × IsText id rows text × (text ≢ codes "files") × (text ≢ codes "all")
IsValueRefused id rows refusals.Names = (id ≡ codes "names") × (text : Text) × IsText id rows text × (text ≢ codes "text") × (text ≢ codes "bytes")
IsValueRefused id rows refusals.Counts = (id ≡ codes "counts") × (text : Text) × IsText id rows text × (text ≢ codes "bounded") × (text ≢ codes "free")
IsValueRefused id rows Owner = (id ≡ codes "attributes") × IsText id rows (codes "host") × ((is_given (codes "uid") rows ≡ true) ⊎ (is_given (codes "gid") rows ≡ true))
IsValueRefused id rows refusals.Number = (takes_number id ≡ true) × (text : Text) × IsNumberText id rows text × (IsSpelt text → ⊥)
IsValueRefused id rows refusals.Workers = (id ≡ codes "workers") × (n : ℕ) × IsNumber id rows n × ((n ≡ 0) ⊎ (4 < n))

-- the subcommand with that name. Clap takes no name but those of the four, so any other may stand for `hex`
abbrev pub subcommand_named : Text → Shape
subcommand_named name = unwrap_or (find (λ s. bytes_eq name s.name) mirrord_app.subs) hex_app.top

-- whether the subcommand with that name has that option
abbrev pub has_option : (name id : Text) → Bool
has_option name id = list_any (λ rule. bytes_eq rule.id id) (subcommand_named name).rules

-- why the subcommand with that name can do nothing: the value of an option that it has is refused
abbrev pub AreRefused : (name : Text) → List Row → OptionsRefusal → Type 0
AreRefused name rows refusal = (id : Text) × (has_option name id ≡ true) × IsValueRefused id rows refusal

-- the settings of a session
pub record AreTerms (rows : List Row) (terms : Terms) : Type 0 where
  pub settings : AreSettings rows terms.settings
  pub bounds : AreBounds rows terms.bounds

-- what the subcommand with that name asks for, which was read with these rows
abbrev pub IsAskedBy : Text → List Row → Options → Type 0
IsAskedBy name rows (Serve root socket workers single terms) =
    (name ≡ codes "serve") × IsText (codes "root") rows root.now × IsText (codes "socket") rows socket.now
    × AreWorkers rows workers × IsFlag (codes "single") rows single × AreTerms rows terms
IsAskedBy name rows (Pipe root terms) = (name ≡ codes "pipe") × IsText (codes "root") rows root.now × AreTerms rows terms
IsAskedBy name rows (Device root workers single terms) =
    (name ≡ codes "device") × IsText (codes "root") rows root.now
    × AreWorkers rows workers × IsFlag (codes "single") rows single × AreTerms rows terms
IsAskedBy name rows (Refused refusal) = AreRefused name rows refusal
IsAskedBy name rows (Hex sample kinds postings) = (name ≢ codes "serve") × (name ≢ codes "pipe") × (name ≢ codes "device") × IsFlag (codes "sample") rows sample × AreKinds rows kinds × IsNumber (codes "postings") rows postings

abbrev pub IsAsked : Option (Text × List Row) → Options → Type 0
IsAsked None options = options ≡ Hex false Plain 1048576
IsAsked (Some met) options = IsAskedBy met.0 met.1 options
