-- What words ask, case by case.
use Rattle.std.proofs.Common.{◌≡◌, true, List, Option, Some, None, Result, Ok, Err, codes, inl, inr, sym, ap, ◌∙◌, subst}
use Rattle.std.specs.Prelude.{IfErr, IsErrAnd}
use Rattle.clap.specs.Words.{App, HasMatchesOf, Row, Text, is_simple, kind_of, subcommand_of, subcommand_rows_of, takes}
use Rattle.clap.specs.declared.error.Error.{Error}
use Rattle.clap.specs.declared.error.kind.ErrorKind.TheVariants.{OutOfMemory}
use Rattle.clap.specs.declared.parser.matches.ArgMatches.{ArgMatches}
use Rattle.hub_app.specs.declared.words.WordsFault.{WordsFault}
use Rattle.hub_app.specs.declared.words.WordsFault.TheVariants.{Memory}
use Rattle.hub_program.specs.Program.{edihub}
use Rattle.hub_app.specs.declared.words.HubWords.{HubWords}
use Rattle.hub_app.specs.declared.words.Words.{Words}
use Rattle.hub_app.specs.declared.words.Words.TheVariants.{Check, Relay, Show, Init, Rekey, Verify, Hub, Serve}
use Rattle.hub_app.specs.Options.{FindsOption}
use Rattle.hub_app.specs.Words.{CommandAsks, AreHubWords, IsOverHub, Names, RefusesWords, Say}
use Rattle.hub_program.proofs.Simple.{simple}

-- without the options of a hub nothing is asked of one
pub no_hub : (command : Text) (rows : List Row) → ((hub : HubWords) → AreHubWords rows hub → ⊥) → (words : Words)
    → IsOverHub command rows words
    → ⊥
no_hub command rows none (Hub hub) h = none hub h.1
no_hub command rows none (Check w) h = h
no_hub command rows none (Relay w) h = h
no_hub command rows none Show h = h
no_hub command rows none (Init w) h = h
no_hub command rows none (Rekey w) h = h
no_hub command rows none (Verify w) h = h
no_hub command rows none (Serve w) h = h

-- a command that is none of the other seven is one over a hub
module _ (command : Text) (rows : List Row) (no_check : command ≡ codes "check" → ⊥)
    (no_relay : command ≡ codes "relay" → ⊥)
    (no_show : command ≡ codes "show" → ⊥)
    (no_init : command ≡ codes "init" → ⊥)
    (no_rekey : command ≡ codes "rekey" → ⊥)
    (no_verify : command ≡ codes "verify" → ⊥)
    (no_serve : command ≡ codes "serve" → ⊥) where
  pub is_over_hub : (words : Words) → CommandAsks command rows words → IsOverHub command rows words
  is_over_hub (Hub hub) h = h
  is_over_hub (Check w) h = no_check h.0
  is_over_hub (Relay w) h = no_relay h.0
  is_over_hub Show h = no_show h
  is_over_hub (Init w) h = no_init h.0
  is_over_hub (Rekey w) h = no_rekey h.0
  is_over_hub (Verify w) h = no_verify h.0
  is_over_hub (Serve w) h = no_serve h.0

  pub is_asked : (words : Words) → IsOverHub command rows words → CommandAsks command rows words
  is_asked (Hub hub) h = h
  is_asked (Check w) h = absurd h
  is_asked (Relay w) h = absurd h
  is_asked Show h = absurd h
  is_asked (Init w) h = absurd h
  is_asked (Rekey w) h = absurd h
  is_asked (Verify w) h = absurd h
  is_asked (Serve w) h = absurd h

  pub finds_asked : (found : Option Words) → FindsOption (IsOverHub command rows) found → FindsOption (CommandAsks command rows) found
  finds_asked (Some words) h = is_asked words h
  finds_asked None none = λ words h. none words (is_over_hub words h)

-- an error of `clap` where it takes the words
pub only_memory : {T : Type 0} (app : App) (texts : List Text) (error : Error) (result : Result T WordsFault) → app ≡ edihub
    → (takes app texts ≡ true → kind_of error ≡ OutOfMemory)
    → IsErrAnd result (λ fault. kind_of error ≡ OutOfMemory → fault ≡ Memory)
    → IfErr result (RefusesWords texts)
only_memory app texts error (Ok x) is passes h = tt
only_memory app texts error (Err fault) is passes h =
    λ took. inl (h (passes (subst (λ (a : App). takes a texts ≡ true) (sym is) took)))

-- the command that `clap` met, where the program is the one that is defined
pub met : (app : App) (texts : List Text) (matches : ArgMatches) → app ≡ edihub
    → HasMatchesOf app texts matches
    → subcommand_rows_of matches ≡ subcommand_of edihub texts
met app texts matches is h = (h (ap is_simple is ∙ simple)).1 ∙ ap (λ (a : App). subcommand_of a texts) is

-- what is said where something was found in the command, and where nothing was
pub said : (texts : List Text) (command : Option (Text × List Row)) (found : Option Words) (words : Words)
    → command ≡ subcommand_of edihub texts
    → FindsOption (Names command) found
    → found ≡ Some words
    → Say texts words
said texts command found words met h is =
    let asked : Names command words = subst (FindsOption (Names command)) is h in
    subst (λ (m : Option (Text × List Row)). Names m words) met asked

pub nothing_said : (texts : List Text) (command : Option (Text × List Row)) (found : Option Words) (fault : WordsFault)
    → command ≡ subcommand_of edihub texts
    → FindsOption (Names command) found
    → found ≡ None
    → RefusesWords texts fault
nothing_said texts command found fault met h is =
    let none : (words : Words) → Names command words → ⊥ = subst (FindsOption (Names command)) is h in
    λ took. inr (λ words said. none words (subst (λ (m : Option (Text × List Row)). Names m words) (sym met) said))
