-- Defines the number that a row's column holds for each case of an enum.
use Rattle.std.specs.Prelude.{ℕ, ◌<◌, Bool, true, false, List, [], ◌∷◌}
use Rattle.std.proofs.Common.{arith}
use Rattle.hub_tables.specs.declared.cases.LineState.{LineState}
use Rattle.hub_tables.specs.declared.cases.LineState.TheVariants as answers
use Rattle.hub_tables.specs.declared.cases.Side.{Side}
use Rattle.hub_tables.specs.declared.cases.Side.TheVariants as sides
use Rattle.hub_tables.specs.declared.cases.MailKind.{MailKind}
use Rattle.hub_tables.specs.declared.cases.MailKind.TheVariants as kinds
use Rattle.hub_tables.specs.declared.cases.Arrival.{Arrival}
use Rattle.hub_tables.specs.declared.cases.Arrival.TheVariants as arrivals

-- the letter of an answer: W waiting, A accepted, N not accepted, C changed
abbrev pub answer_letter : LineState → ℕ
answer_letter answers.Waiting = 0x57
answer_letter answers.Accepted = 0x41
answer_letter answers.NotAccepted = 0x4E
answer_letter answers.Changed = 0x43

-- the letter of a side: R retailer, S supplier, C cancellation
abbrev pub side_letter : Side → ℕ
side_letter sides.Retailer = 0x52
side_letter sides.Supplier = 0x53
side_letter sides.Cancellation = 0x43

-- the letter of a mail entry's type: O ORDERS, R RECADV
abbrev pub kind_letter : MailKind → ℕ
kind_letter kinds.Orders = 0x4F
kind_letter kinds.Receipt = 0x52

-- 0: announced, 1: received, 2: received by an advice that replaces earlier ones
abbrev pub arrival_number : Arrival → ℕ
arrival_number arrivals.Announced = 0
arrival_number arrivals.Received = 1
arrival_number arrivals.Replaced = 2

-- 0: no, 1: yes
abbrev pub truth_number : Bool → ℕ
truth_number false = 0
truth_number true = 1

-- all cases of each enum
abbrev pub every_answer : List LineState
every_answer = answers.Waiting ∷ answers.Accepted ∷ answers.NotAccepted ∷ answers.Changed ∷ []

abbrev pub every_side : List Side
every_side = sides.Retailer ∷ sides.Supplier ∷ sides.Cancellation ∷ []

abbrev pub every_kind : List MailKind
every_kind = kinds.Orders ∷ kinds.Receipt ∷ []

abbrev pub every_arrival : List Arrival
every_arrival = arrivals.Announced ∷ arrivals.Received ∷ arrivals.Replaced ∷ []

abbrev pub every_truth : List Bool
every_truth = true ∷ false ∷ []

-- each number fits in one byte
pub answers_small : (answer : LineState) → answer_letter answer < 256
answers_small answers.Waiting = omega arith
answers_small answers.Accepted = omega arith
answers_small answers.NotAccepted = omega arith
answers_small answers.Changed = omega arith

pub sides_small : (side : Side) → side_letter side < 256
sides_small sides.Retailer = omega arith
sides_small sides.Supplier = omega arith
sides_small sides.Cancellation = omega arith

pub kinds_small : (kind : MailKind) → kind_letter kind < 256
kinds_small kinds.Orders = omega arith
kinds_small kinds.Receipt = omega arith

pub arrivals_small : (arrival : Arrival) → arrival_number arrival < 256
arrivals_small arrivals.Announced = omega arith
arrivals_small arrivals.Received = omega arith
arrivals_small arrivals.Replaced = omega arith

pub truths_small : (truth : Bool) → truth_number truth < 256
truths_small false = omega arith
truths_small true = omega arith
