-- Proves that an order can be known by the lines alone that an answer names by their numbers.
use Rattle.std.proofs.Common.{◌≡◌, ℕ, ◌==◌, nat_eq, Bool, true, false, cond, ◌&&◌, ◌||◌, inl, inr, List, [], ◌∷◌, ◌++◌, filter, find}
use Rattle.std.proofs.Common.{Option, Some, None, option_map, refl, sym, ap, ap₂, subst, ◌∙◌, arith}
use Rattle.std.specs.List.{AllByRecursion, flat_map}
use Rattle.std.specs.Option.{unwrap_or}
use Rattle.std.proofs.lemmas.Bool.{and_parts}
use Rattle.std.proofs.lemmas.Bool.Decides.{nat_tests}
use Rattle.edi_base.specs.Seen.{comes_among}
use Rattle.edi_orders.specs.declared.response.Answer.{Answer}
use Rattle.edi_orders.specs.declared.response.Answer.TheVariants.{AllAccepted, AllRefused, Lines}
use Rattle.edi_orders.specs.declared.response.AnswerLine.{AnswerLine}
use Rattle.edi_orders.specs.declared.response.Response.{Response}
use Rattle.hub_parties.specs.declared.row.SupplierRow.{SupplierRow}
use Rattle.hub_tables.specs.Rows.{same}
use Rattle.hub_tables.specs.State.{lines_of, despatched}
use Rattle.hub_tables.specs.Tables.{Tables}
use Rattle.hub_tables.specs.declared.cases.Side.TheVariants.{Supplier}
use Rattle.hub_tables.specs.declared.rows.LineRow.{LineRow}
use Rattle.hub_tables.proofs.Lists.{decide, same_is, same_if, all_filter}
use Rattle.hub_store.specs.Lines.{lines_at}
use Rattle.hub_order_lines.specs.Book.{facts_of, lines_in, rows}
use Rattle.hub_order_lines.specs.KnownLines.{AddsUp}
use Rattle.hub_order_lines.specs.declared.facts.LineFacts.{LineFacts}
use Rattle.hub_rules.specs.ResponseRules.{judge_new_response}
use Rattle.hub_rules.specs.Rules.{judge_response}
use Rattle.hub_rules.specs.Sound.{Balanced, Kept}
use Rattle.hub_rules.specs.declared.incoming.IncomingMessage.{IncomingMessage}
use Rattle.hub_judges.specs.Known.{TellsRemembered, TellsForResponse}
use Rattle.hub_judges.specs.declared.known.Known.{Known}
use Rattle.hub_naming.specs.Lines.{NamesByNumber, has_number}
use Rattle.hub_transactions.specs.Named.{NamedLines}
use Rattle.hub_transactions.specs.Orders.{AgreeOnLines, TellsAlike}
use Rattle.hub_transactions.proofs.Asked.{message_local, new_response_local}
use Rattle.hub_transactions.proofs.LookUps.{same_rows, all_despatched}

-- Finding in lists.

abbrev or_else : {X : Type 0} → Option X → Option X → Option X
or_else None other = other
or_else (Some x) other = Some x

find_append : {X : Type 0} (p : X → Bool) (xs ys : List X) → find p (xs ++ ys) ≡ or_else (find p xs) (find p ys)
find_append p [] ys = refl
find_append p (x ∷ xs) ys =
    elim (p x) as (λ v. cond v (Some x) (find p (xs ++ ys)) ≡ or_else (cond v (Some x) (find p xs)) (find p ys))
    [ true ↦ refl | false ↦ find_append p xs ys ]

numbered_itself : (n : ℕ) (lines : List LineRow)
    → find (λ line. line.line == n) (filter (λ line. line.line == n) lines) ≡ find (λ line. line.line == n) lines
numbered_itself n [] = refl
numbered_itself n (line ∷ lines) =
    let ih = numbered_itself n lines in
    elim (decide (line.line == n)) [ inl e ↦ grind (arith, e, ih) | inr e ↦ grind (arith, e, ih) ]

numbered_other : (n m : ℕ) (lines : List LineRow) → nat_eq n m ≡ false
    → find (λ line. line.line == n) (filter (λ line. line.line == m) lines) ≡ None
numbered_other n m [] apart = refl
numbered_other n m (line ∷ lines) apart =
    let ih = numbered_other n m lines apart in
    elim (decide (line.line == m)) [
      | inl e ↦ let not_it : (line.line == n) ≡ false = grind (arith, nat_tests, e, apart) in grind (arith, e, not_it, ih)
      | inr e ↦ grind (arith, e, ih)
    ]

-- a line with a number is found among the lines with these numbers, if its number is one of them
pub found_among : (n : ℕ) (numbers : List ℕ) (lines : List LineRow)
    → find (λ line. line.line == n) (flat_map (λ m. filter (λ line. line.line == m) lines) numbers)
    ≡ cond (comes_among nat_eq n numbers) (find (λ line. line.line == n) lines) None
found_among n [] lines = refl
found_among n (m ∷ numbers) lines =
    let ih = found_among n numbers lines in
    find_append (λ line. line.line == n) (filter (λ line. line.line == m) lines) (flat_map (λ m. filter
    (λ line. line.line == m) lines) numbers)
    ∙ elim (decide (nat_eq n m)) [
      | inl e ↦
          let is : m ≡ n = grind (arith, nat_tests, e) in
          ap₂ or_else (ap (λ k. find (λ line. line.line == n) (filter (λ line. line.line == k) lines)) is ∙ numbered_itself n lines) ih
          ∙ either (find (λ line. line.line == n) lines) (comes_among nat_eq n numbers)
          ∙ sym (ap (λ v. cond (v || comes_among nat_eq n numbers) (find (λ line. line.line == n) lines) None) e)
      | inr e ↦
          ap₂ or_else (numbered_other n m lines e) ih
          ∙ sym (ap (λ v. cond (v || comes_among nat_eq n numbers) (find (λ line. line.line == n) lines) None) e)
    ]
  where
    either : (found : Option LineRow) (v : Bool) → or_else found (cond v found None) ≡ found
    either None true = refl
    either None false = refl
    either (Some line) v = refl

all_append : {X : Type 0} (P : X → Type 0) (xs ys : List X) → AllByRecursion P xs → AllByRecursion P ys → AllByRecursion P (xs ++ ys)
all_append P [] ys one other = other
all_append P (x ∷ xs) ys one other = (one.0, all_append P xs ys one.1 other)

pub all_numbered : (P : LineRow → Type 0) (lines : List LineRow) (numbers : List ℕ) → AllByRecursion P lines
    → AllByRecursion P (flat_map (λ m. filter (λ line. line.line == m) lines) numbers)
all_numbered P lines [] all = tt
all_numbered P lines (m ∷ numbers) all =
    all_append P (filter (λ line. line.line == m) lines) (flat_map (λ m. filter (λ line. line.line == m) lines) numbers)
    (all_filter P (λ line. line.line == m) lines all) (all_numbered P lines numbers all)

-- lines of one order, picked by their numbers, are all lines of that order
pub filter_all : {X : Type 0} (p : X → Bool) (xs : List X) → AllByRecursion (λ x. p x ≡ true) xs → filter p xs ≡ xs
filter_all p [] all = refl
filter_all p (x ∷ xs) all = ap (λ v. cond v (x ∷ filter p xs) (filter p xs)) all.0 ∙ ap (λ rest. x ∷ rest) (filter_all p xs all.1)

pub passes_filter : {X : Type 0} (p : X → Bool) (xs : List X) → AllByRecursion (λ x. p x ≡ true) (filter p xs)
passes_filter p [] = tt
passes_filter p (x ∷ xs) =
    elim (p x) as (λ v. p x ≡ v → AllByRecursion (λ x. p x ≡ true) (cond v (x ∷ filter p xs) (filter p xs)))
    [ true ↦ λ e. (e, passes_filter p xs) | false ↦ λ e. passes_filter p xs ] refl

module _ (state : Tables) (order : List ℕ) (numbers : List ℕ) where
  -- the state with only these lines
  abbrev only : Tables
  only = record state { lines = lines_at state order numbers }

  own_lines : lines_of only order ≡ lines_at state order numbers
  own_lines =
      filter_all (λ line. same line.number order) (lines_at state order numbers)
      (all_numbered (λ line. same line.number order ≡ true) (lines_of state order) numbers (passes_filter
      (λ line. same line.number order) state.lines))

  abbrev asks : List ℕ → Option ℕ → Bool
  asks other number = same other order && has_number numbers number

  agrees : AgreeOnLines asks only state
  agrees = record {
    rest = refl;
    one = λ other number asked.
        let parts = and_parts (same other order) (comes_among nat_eq number numbers) asked in
        let is = same_is other order parts.0 in
        ap (λ o. find (λ line. line.line == number) (lines_of only o)) is
        ∙ ap (find (λ line. line.line == number)) own_lines
        ∙ found_among number numbers (lines_of state order)
        ∙ ap (λ v. cond v (find (λ line. line.line == number) (lines_of state order)) None) parts.1
        ∙ sym (ap (λ o. find (λ line. line.line == number) (lines_of state o)) is);
    all = λ other asked. absurd (no_number (same other order) asked);
  }
    where
      no_number : (v : Bool) → (v && false) ≡ true → ⊥
      no_number true e = cc
      no_number false e = cc

-- each line that is answered is asked for
all_asked : (order : List ℕ) (numbers : List ℕ) (said : List AnswerLine)
    → AllByRecursion (λ (line : AnswerLine). has_number numbers line.order_line ≡ true) said
    → AllByRecursion (λ (line : AnswerLine). (same order order && has_number numbers line.order_line) ≡ true) said
all_asked order numbers [] all = tt
all_asked order numbers (line ∷ said) all =
    (ap (λ v. v && has_number numbers line.order_line) (same_if order order refl) ∙ all.0, all_asked order numbers said all.1)

response_alike : (retailer : List ℕ) (supplier : Option SupplierRow) (incoming : IncomingMessage) (response : Response) (state : Tables)
    (numbers : List ℕ) (answer : Answer) → response.answer ≡ answer → NamesByNumber numbers answer
    → judge_response retailer supplier incoming response (only state response.order numbers)
    ≡ judge_response retailer supplier incoming response state
response_alike retailer supplier incoming response state numbers AllAccepted is named = absurd named
response_alike retailer supplier incoming response state numbers AllRefused is named = absurd named
response_alike retailer supplier incoming response state numbers (Lines said) is named =
    message_local (asks state response.order numbers) retailer supplier Supplier incoming (Some response.buyer) response.supplier
    (λ s. judge_new_response response)
    (λ s. new_response_local (asks state response.order numbers) response said is (all_asked response.order numbers said named))
    (only state response.order numbers) state (agrees state response.order numbers)

-- what is known by these lines is right for some rows over which the rules decide the same
pub named_told : (incoming : IncomingMessage) (response : Response) (state : Tables) (known : Known)
    → Kept state
    → TellsRemembered known Supplier incoming.control incoming.message incoming.content state
    → NamedLines response state known.orders
    → TellsAlike (TellsForResponse known incoming response) (λ retailer row. judge_response retailer row incoming response) state
named_told incoming response state known kept remembered named =
    let order = response.order in
    let here = only state order named.numbers in
    let put = named.known in
    let facts = facts_of put.facts order in
    let lines_put : lines_in known.orders order ≡ facts =
    ap (λ o. unwrap_or (option_map (λ (known : Bool × List LineFacts). known.1) o) []) put.known in
    let rows_put : rows facts ≡ lines_of here order = same_rows order put.facts ∙ ap (filter (λ row. same row.number order)) put.rows_are in
    let balanced : AllByRecursion (Balanced state) (lines_at state order named.numbers) =
    all_numbered (Balanced state) (lines_of state order) named.numbers
    (all_filter (Balanced state) (λ line. same line.number order) state.lines kept.balanced) in
    let of_facts : AllByRecursion (Balanced state) (rows facts) =
    subst (AllByRecursion (Balanced state)) (sym (rows_put ∙ own_lines state order named.numbers)) balanced in
    record {
      seen = here;
      alike = λ retailer row. response_alike retailer row incoming response state named.numbers response.answer refl named.by_number;
      told = record {
        remembered = remembered;
        answered = λ none. record {
          order = sym (ap (λ o. unwrap_or (option_map (λ (known : Bool × List LineFacts). known.0) o) false) put.known);
          lines = sym rows_put ∙ ap rows (sym lines_put);
          despatched = subst (AllByRecursion (λ (line : LineFacts). despatched state line.row ≡ line.despatched)) (sym lines_put)
              (all_despatched state facts (all_filter AddsUp (λ line. same line.row.number order) put.facts put.adds_up) of_facts);
        };
      };
    }
