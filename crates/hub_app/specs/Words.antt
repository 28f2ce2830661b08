-- What the words of the command line say, as `clap` parses them.
use Rattle.std.specs.Prelude.{◌≡◌, ◌⊎◌, ℕ, Bool, true, false, List, [], ◌∷◌, Option, Some, None, option_and_then, option_map, codes}
use Rattle.std.specs.Prelude.{if◌then◌else◌, is_some}
use Rattle.clap.specs.Words.{Row, Text, first_of, kind_of, subcommand_of, takes}
use Rattle.clap.specs.declared.error.kind.ErrorKind.TheVariants.{ValueValidation}
use Rattle.gs1_ids.specs.Gln.{gln_of}
use Rattle.hub_app.specs.declared.words.HubOptions.{HubOptions}
use Rattle.hub_app.specs.declared.words.HubTask.{HubTask}
use Rattle.hub_app.specs.declared.words.HubTask.TheVariants.{Import, Ask, JoinByFile}
use Rattle.hub_app.specs.declared.words.HubWords.{HubWords}
use Rattle.hub_app.specs.declared.words.InitWords.{InitWords}
use Rattle.hub_app.specs.declared.words.JoinByFile.{JoinByFile as FileJoin}
use Rattle.hub_app.specs.declared.words.JoinTexts.{JoinTexts}
use Rattle.hub_app.specs.declared.words.KeyWord.{KeyWord}
use Rattle.hub_app.specs.declared.words.KeyWord.TheVariants as word
use Rattle.hub_app.specs.declared.words.RekeyWords.{RekeyWords}
use Rattle.hub_app.specs.declared.words.ServeWords.{ServeWords}
use Rattle.hub_app.specs.declared.words.Words.{Words}
use Rattle.hub_app.specs.declared.words.Words.TheVariants.{Check, Relay, Show, Init, Rekey, Verify, Hub, Serve}
use Rattle.hub_app.specs.declared.words.WordsFault.{WordsFault}
use Rattle.hub_app.specs.declared.words.WordsFault.TheVariants.{Told, Memory}
use Rattle.edi_relay.specs.declared.relay.RelayWords.{RelayWords}
use Rattle.hub_app.specs.Options.{moment_of, port_of, connections_of, is_set, prefixes_of, if_given, unless_given, values_given}
use Rattle.hub_program.specs.Program.{edihub}
use Rattle.edi_relay.specs.Relay.{AreRelayWords, relay_words_of}
use Rattle.hub_parties.specs.Prefixes.{company_prefixes_of}
use Rattle.hub_parties.specs.declared.row.SupplierRow.{SupplierRow}
use Rattle.hub_rules.specs.JoinRules.{join_of}
use Rattle.hub_rules.specs.declared.cancel.Cancel.{Cancel as Cancellation}
use Rattle.hub_requests.specs.declared.request.Request.{Request}
use Rattle.hub_requests.specs.declared.request.Request.TheVariants.{Upload, Status, StatusOf, MailAfter, MailItem, MailTaken}
use Rattle.hub_requests.specs.declared.request.Request.TheVariants.{Cancel, Join}
use Rattle.hub_texts.specs.declared.cancel.CancelFields.{CancelFields}
use Rattle.hub_texts.specs.Cancel.{cancel_with, positive}
use Rattle.hub_texts.specs.Number.{number_in}

-- the options of `relay`
pub record IsRelay (rows : List Row) (words : RelayWords) : Type 0 where
  pub hub : first_of (codes "hub") rows ≡ Some words.hub
  pub owner : first_of (codes "owner") rows ≡ Some words.owner
  pub moment : option_and_then moment_of (first_of (codes "moment") rows) ≡ Some words.moment
  pub number : option_and_then number_in (first_of (codes "number") rows) ≡ Some words.number
  pub within : relay_words_of words.hub words.owner words.moment words.number ≡ Some words

-- `mail` asks this of the entry of number n
pub record IsMail (word : Text) (n : ℕ) (rows : List Row) : Type 0 where
  pub what : first_of (codes "do") rows ≡ Some word
  pub number : option_and_then number_in (first_of (codes "n") rows) ≡ Some n

-- the options whose values are the five texts of a cancellation
abbrev pub cancel_options : List Text
cancel_options =
    codes "supplier" ∷ codes "reference" ∷ codes "order" ∷ codes "line" ∷ codes "quantity" ∷ []

abbrev pub texts_of : CancelFields → List Text
texts_of texts = texts.supplier.now ∷ texts.reference.now ∷ texts.order.now ∷ texts.line.now ∷ texts.quantity.now ∷ []

-- the cancellation of five texts, which is the one that the body of their lines says
abbrev pub cancel_by : List Text → Option Cancellation
cancel_by (supplier ∷ reference ∷ order ∷ line ∷ quantity ∷ []) =
    cancel_with supplier reference order (positive 6 line) (positive 9 quantity)
cancel_by texts = None

-- the cancellation that is given by its options
abbrev pub cancellation_given : List Row → Option Cancellation
cancellation_given rows = option_and_then cancel_by (values_given cancel_options rows)

-- how a key is given: by itself, or by the path of the file that has it
pub data KeyGiven : Type 0 where
  Itself : Text → KeyGiven
  InFile : Text → KeyGiven

-- by the values of two options, one for the key and one for its file, if exactly one of them is given
abbrev pub key_by : Option Text → Option Text → Option KeyGiven
key_by (Some key) None = Some (Itself key)
key_by None (Some path) = Some (InFile path)
key_by (Some key) (Some path) = None
key_by None None = None

-- by the names of the two options
abbrev pub key_given : Text → Text → List Row → Option KeyGiven
key_given key file rows = key_by (first_of key rows) (first_of file rows)

abbrev pub given_as : KeyWord → KeyGiven
given_as (word.Given key) = Itself key.now
given_as (word.InFile path) = InFile path.now

-- the options of a join; this one gives the key, or the file that has it
abbrev pub join_options : Text → List Text
join_options key = codes "supplier" ∷ key ∷ codes "prefixes" ∷ []

abbrev pub texts_of_join : JoinTexts → List Text
texts_of_join texts = texts.supplier.now ∷ texts.key.now ∷ texts.prefixes.now ∷ []

-- the join of a supplier with this GLN and this key, and with the prefixes that are listed
abbrev pub join_in : List Text → Option SupplierRow
join_in (supplier ∷ key ∷ listed ∷ []) =
    option_and_then (λ gln. option_and_then (join_of gln key) (prefixes_of listed)) (gln_of supplier)
join_in texts = None

-- the values of these options, if the other option for the key is left out
abbrev pub join_values : Text → Text → List Row → Option (List Text)
join_values key other rows = unless_given (first_of other rows) (values_given (join_options key) rows)

-- the join that is given by its options
abbrev pub join_given : List Row → Option SupplierRow
join_given rows = option_and_then join_in (join_values (codes "supplier-key") (codes "supplier-key-file") rows)

-- a supplier, the path of the file that has its key, and its prefixes
abbrev pub JoinParts : Type 0
JoinParts = Text × Text × List Text

abbrev pub parts_of_join : FileJoin → JoinParts
parts_of_join join = (join.supplier, join.key_file.now, join.prefixes.items)

-- prefixes that one supplier may have
abbrev pub joining_prefixes : List Text → Option (List Text)
joining_prefixes prefixes = if is_some (company_prefixes_of prefixes) then Some prefixes else None

-- a join with this GLN, with the key in this file, and with the prefixes that are listed
abbrev pub join_by_file_in : List Text → Option JoinParts
join_by_file_in (supplier ∷ file ∷ listed ∷ []) =
    option_and_then (λ gln. option_map (λ prefixes. (gln, file, prefixes))
    (option_and_then joining_prefixes (prefixes_of listed))) (gln_of supplier)
join_by_file_in texts = None

-- the join that is given by its options, with its key in a file
abbrev pub join_by_file_given : List Row → Option JoinParts
join_by_file_given rows =
    option_and_then join_by_file_in (join_values (codes "supplier-key-file") (codes "supplier-key") rows)

-- the request that a command over a hub makes; none uploads by one
abbrev pub IsRequest : Text → List Row → Request → Type 0
IsRequest command rows (Upload bytes) = ⊥
IsRequest command rows Status = (command ≡ codes "status") × (if_given gln_of (first_of (codes "of") rows) ≡ Some None)
IsRequest command rows (StatusOf supplier) =
    (command ≡ codes "status") × (if_given gln_of (first_of (codes "of") rows) ≡ Some (Some supplier))
IsRequest command rows (MailAfter number) = (command ≡ codes "mail") × IsMail (codes "after") number rows
IsRequest command rows (MailItem number) = (command ≡ codes "mail") × IsMail (codes "item") number rows
IsRequest command rows (MailTaken number) = (command ≡ codes "mail") × IsMail (codes "taken") number rows
IsRequest command rows (Cancel cancellation) = (command ≡ codes "cancel") × (cancellation_given rows ≡ Some cancellation)
IsRequest command rows (Join join) = (command ≡ codes "join") × (join_given rows ≡ Some join)

-- what a command over a hub asks
abbrev pub IsTask : Text → List Row → HubTask → Type 0
IsTask command rows (Import folder) =
    (command ≡ codes "import") × (first_of (codes "folder") rows ≡ Some folder.now)
IsTask command rows (Ask request) = IsRequest command rows request
IsTask command rows (JoinByFile join) = (command ≡ codes "join") × (join_by_file_given rows ≡ Some (parts_of_join join))

-- the options of every command over a hub
pub record AreHubOptions (rows : List Row) (options : HubOptions) : Type 0 where
  pub db : first_of (codes "db") rows ≡ Some options.db.now
  pub caller : option_and_then gln_of (first_of (codes "as") rows) ≡ Some options.caller
  pub key : key_given (codes "key") (codes "key-file") rows ≡ Some (given_as options.key)
  pub moment : if_given moment_of (first_of (codes "moment") rows) ≡ Some options.moment

abbrev pub AreHubWords : List Row → HubWords → Type 0
AreHubWords rows words = AreHubOptions rows (record {
  db = words.db;
  caller = words.caller;
  key = words.key;
  moment = words.moment;
})

-- the options of `init`
pub record IsInit (rows : List Row) (words : InitWords) : Type 0 where
  pub register : first_of (codes "register") rows ≡ Some words.register.now
  pub db : first_of (codes "db") rows ≡ Some words.db.now

-- whose key is changed: a supplier's, by its GLN, or the retailer's, if exactly one of the two is named
abbrev pub owner_by : Option Text → Bool → Option (Option Text)
owner_by (Some digits) false = option_map Some (gln_of digits)
owner_by None true = Some None
owner_by (Some digits) true = None
owner_by None false = None

abbrev pub owner_given : List Row → Option (Option Text)
owner_given rows = owner_by (first_of (codes "supplier") rows) (is_set (first_of (codes "retailer") rows))

-- the options of `rekey`
pub record IsRekey (rows : List Row) (words : RekeyWords) : Type 0 where
  pub db : first_of (codes "db") rows ≡ Some words.db.now
  pub owner : owner_given rows ≡ Some words.supplier
  pub key_file : first_of (codes "new-key-file") rows ≡ Some words.key_file.now

-- the options of `serve`
pub record IsServe (rows : List Row) (words : ServeWords) : Type 0 where
  pub db : first_of (codes "db") rows ≡ Some words.db.now
  pub port : option_and_then port_of (first_of (codes "port") rows) ≡ Some words.port
  pub count : option_and_then connections_of (first_of (codes "count") rows) ≡ Some words.count
  pub moment : if_given moment_of (first_of (codes "moment") rows) ≡ Some words.moment
  pub stop_when_broken : words.stop_when_broken ≡ is_set (first_of (codes "stop-when-broken") rows)
  pub journal : first_of (codes "journal") rows ≡ option_map (λ path. path.now) words.journal

-- what a command with these options asks for
abbrev pub CommandAsks : Text → List Row → Words → Type 0
CommandAsks command rows (Check words) =
    (command ≡ codes "check") × (first_of (codes "register") rows ≡ Some words.register.now)
CommandAsks command rows (Relay words) = (command ≡ codes "relay") × IsRelay rows words
CommandAsks command rows Show = command ≡ codes "show"
CommandAsks command rows (Init words) = (command ≡ codes "init") × IsInit rows words
CommandAsks command rows (Rekey words) = (command ≡ codes "rekey") × IsRekey rows words
CommandAsks command rows (Verify words) = (command ≡ codes "verify") × (first_of (codes "db") rows ≡ Some words.db.now)
CommandAsks command rows (Hub words) = IsTask command rows words.task × AreHubWords rows words
CommandAsks command rows (Serve words) = (command ≡ codes "serve") × IsServe rows words

-- what a command over a hub asks for
abbrev pub IsOverHub : Text → List Row → Words → Type 0
IsOverHub command rows (Hub words) = IsTask command rows words.task × AreHubWords rows words
IsOverHub command rows _ = ⊥

-- the words name this command, with its options
abbrev pub Names : Option (Text × List Row) → Words → Type 0
Names None words = ⊥
Names (Some met) words = CommandAsks met.0 met.1 words

-- what the words of the command line say, the program's name first
abbrev pub Say : List Text → Words → Type 0
Say texts words = Names (subcommand_of edihub texts) words

-- Words that `clap` takes are refused where memory runs out, and else only where they say nothing.
abbrev pub RefusesWords : List Text → WordsFault → Type 0
RefusesWords texts fault = takes edihub texts ≡ true → (fault ≡ Memory) ⊎ ((words : Words) → Say texts words → ⊥)

-- the words are reported as an option outside its limits, unless memory ran out
abbrev pub IsUsageError : WordsFault → Type 0
IsUsageError (Told error) = kind_of error ≡ ValueValidation
IsUsageError Memory = Unit {0}

-- the numbers of `relay` are within their limits
abbrev pub AreWords : Words → Type 0
AreWords (Relay words) = AreRelayWords words
AreWords _ = Unit {0}
