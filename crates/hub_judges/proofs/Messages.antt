-- Shows that a message which is admitted and new is decided by the rest of its checks, and is remembered first.
use Rattle.std.proofs.Common.{◌≡◌, ℕ, List, [], ◌∷◌, Option, ◌∙◌, ap}
use Rattle.hub_parties.specs.declared.row.SupplierRow.{SupplierRow}
use Rattle.hub_tables.specs.Change.{apply_all}
use Rattle.hub_tables.specs.State.{remembered_of}
use Rattle.hub_tables.specs.Tables.{Tables}
use Rattle.hub_tables.specs.declared.cases.Side.{Side}
use Rattle.hub_tables.specs.declared.change.Change.{Change}
use Rattle.hub_tables.specs.declared.change.Change.TheVariants.{Remember}
use Rattle.hub_rules.specs.Judging.{Judge, gives, in_turn, joined, refuse_if}
use Rattle.hub_rules.specs.RepeatRules.{remembered, once, judge_once}
use Rattle.hub_rules.specs.PartyRules.{is_other_buyer, if_registered}
use Rattle.hub_rules.specs.Rules.{referred_by, judge_message}
use Rattle.hub_rules.specs.declared.code.Code.TheVariants.{Buyer}
use Rattle.hub_rules.specs.declared.incoming.IncomingMessage.{IncomingMessage}
use Rattle.hub_rules.specs.declared.verdict.Verdict.{Verdict}

-- the change that remembers it
abbrev pub first_of : SupplierRow → Side → IncomingMessage → List Change
first_of s side incoming = Remember (remembered (referred_by s side incoming) incoming.content) ∷ []

pub judged_message :
    (retailer : List ℕ) (supplier : Option SupplierRow) (side : Side) (incoming : IncomingMessage) (buyer : Option (List ℕ))
    (named : List ℕ) (rest : SupplierRow → Judge) (s : SupplierRow) (state : Tables) (verdict : Verdict)
    → ((next : SupplierRow → Verdict)
    → refuse_if (is_other_buyer retailer buyer) Buyer (if_registered supplier named next) ≡ next s)
    → ((fresh : Verdict) → once (remembered_of state side incoming.control incoming.message) incoming.content fresh ≡ fresh)
    → rest s (apply_all (first_of s side incoming) state) ≡ verdict
    → judge_message retailer supplier side incoming buyer named rest state ≡ joined (first_of s side incoming) verdict
judged_message retailer supplier side incoming buyer named rest s state verdict admitted new judged =
    admitted (λ s. judge_once (referred_by s side incoming) incoming.content (rest s) state)
    ∙ new (in_turn (gives (first_of s side incoming)) (rest s) state)
    ∙ ap (joined (first_of s side incoming)) judged
