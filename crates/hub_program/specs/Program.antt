-- The commands of the program, as `clap` parses them.
use Rattle.std.specs.Prelude.{◌≡◌, Bool, true, false, List, [], ◌∷◌, ◌++◌, Some, codes}
use Rattle.clap.specs.Words.{App, Rule, Shape, Text, app_of, new_app, new_rule}
use Rattle.clap.specs.declared.builder.action.ArgAction.TheVariants.{Set, SetTrue}
use Rattle.clap.specs.declared.builder.command.Command.{Command}
use Rattle.clap.specs.declared.builder.command.Command.TheViews.{out-Command as fields_of}
use Rattle.hub_program.specs.declared.program.Choice.{Choice}
use Rattle.hub_program.specs.declared.program.Choice.TheVariants.{Wanted, Offered, Flag}

-- an option with one value, that has to be given or not
abbrev pub option : Bool → Text → Rule
option required name = record (new_rule name) {
  long = Some name;
  value_names = 1;
  action = Some Set;
  required = required;
}

abbrev pub wanted : Text → Rule
wanted = option true

abbrev pub offered : Text → Rule
offered = option false

-- an option without a value, that may be left out
abbrev pub flagged : Text → Rule
flagged name = record (new_rule name) { long = Some name; action = Some SetTrue }

-- a command with these options
abbrev pub with_options : Text → List Rule → Shape
with_options name rules = record (new_app name).top { rules = rules }

-- one option more
abbrev pub with_option : Shape → Rule → Shape
with_option shape rule = record shape { rules = shape.rules ++ rule ∷ [] }

-- an option as the program's tables have it
abbrev pub rule_of_choice : Choice → Rule
rule_of_choice (Wanted name value help) = wanted name.now
rule_of_choice (Offered name value help) = offered name.now
rule_of_choice (Flag name help) = flagged name.now

-- options of a table more
abbrev pub with_choices : Shape → List Choice → Shape
with_choices shape [] = shape
with_choices shape (choice ∷ choices) = with_choices (with_option shape (rule_of_choice choice)) choices

-- the options of every command over a hub, and more
abbrev pub over_a_hub : Text → List Rule → Shape
over_a_hub name more = with_options name (
    wanted (codes "db") ∷ wanted (codes "as") ∷ offered (codes "key-file") ∷ offered (codes "key")
    ∷ offered (codes "moment") ∷ more)

abbrev pub check : Shape
check = with_options (codes "check") (wanted (codes "register") ∷ [])

abbrev pub relay : Shape
relay = with_options (codes "relay") (
    wanted (codes "hub") ∷ wanted (codes "owner") ∷ wanted (codes "moment") ∷ wanted (codes "number") ∷ [])

abbrev pub show : Shape
show = with_options (codes "show") []

abbrev pub init : Shape
init = with_options (codes "init") (wanted (codes "register") ∷ wanted (codes "db") ∷ [])

abbrev pub join : Shape
join = over_a_hub (codes "join") (
    wanted (codes "supplier") ∷ offered (codes "supplier-key-file") ∷ offered (codes "supplier-key")
    ∷ wanted (codes "prefixes") ∷ [])

abbrev pub rekey : Shape
rekey = with_options (codes "rekey") (
    wanted (codes "db") ∷ offered (codes "supplier") ∷ flagged (codes "retailer") ∷ wanted (codes "new-key-file") ∷ [])

abbrev pub verify : Shape
verify = with_options (codes "verify") (wanted (codes "db") ∷ [])

abbrev pub import : Shape
import = over_a_hub (codes "import") (wanted (codes "folder") ∷ [])

abbrev pub status : Shape
status = over_a_hub (codes "status") (offered (codes "of") ∷ [])

abbrev pub mail : Shape
mail = over_a_hub (codes "mail") (wanted (codes "do") ∷ wanted (codes "n") ∷ [])

abbrev pub cancel : Shape
cancel = over_a_hub (codes "cancel") (
    wanted (codes "supplier") ∷ wanted (codes "reference") ∷ wanted (codes "order") ∷ wanted (codes "line")
    ∷ wanted (codes "quantity") ∷ [])

abbrev pub serve : Shape
serve = with_options (codes "serve") (
    wanted (codes "db") ∷ wanted (codes "port") ∷ wanted (codes "count") ∷ offered (codes "moment")
    ∷ flagged (codes "stop-when-broken") ∷ offered (codes "journal") ∷ [])

-- the program before its commands, of which it wants one
abbrev pub bare : App
bare = record {
  top = record (new_app (codes "edihub")).top { has_version = true; subcommand_required = true };
  subs = [];
}

-- the program
abbrev pub edihub : App
edihub = record {
  top = record bare.top { is_leaf = false };
  subs = check ∷ relay ∷ show ∷ init ∷ join ∷ rekey ∷ verify ∷ import ∷ status ∷ mail ∷ cancel ∷ serve ∷ [];
}

-- a command of this shape, with no subcommand and no option for all levels
pub record IsCommand (shape : Shape) (command : Command) : Type 0 where
  pub app : app_of command ≡ record { top = shape; subs = [] }
  pub local : (fields_of command).has_globals ≡ false
