-- Proves that orders of which an advice names single lines can be known by these lines, apart from orders known in
-- full.
use Rattle.std.proofs.Common.{◌≡◌, ℕ, ◌==◌, nat_eq, Bool, true, false, not, cond, ◌||◌, inl, inr, Bor, List, [], ◌∷◌, ◌++◌, filter}
use Rattle.std.proofs.Common.{find, map}
use Rattle.std.proofs.Common.{Option, Some, None, option_map, is_some, refl, sym, ap, ap₂, subst, ◌∙◌}
use Rattle.std.specs.List.{AllByRecursion}
use Rattle.std.specs.Option.{unwrap_or}
use Rattle.std.proofs.lemmas.Bool.{or_parts, true≢false}
use Rattle.std.proofs.lemmas.List.{append-nil}
use Rattle.std.proofs.lemmas.List.Elements.{filter-append}
use Rattle.edi_base.specs.Seen.{is_among, comes_among}
use Rattle.edi_goods.specs.declared.despatch.Despatch.{Despatch}
use Rattle.edi_goods.specs.declared.despatch.Unit.{Unit}
use Rattle.hub_tables.specs.Rows.{same}
use Rattle.hub_tables.specs.State.{knows_order, knows_advice, lines_of, remembered_content}
use Rattle.hub_tables.specs.Tables.{Tables, has_pallet}
use Rattle.hub_tables.specs.declared.cases.Side.TheVariants.{Supplier}
use Rattle.hub_tables.specs.declared.rows.LineRow.{LineRow}
use Rattle.hub_tables.proofs.Lists.{all_weaker, decide, same_is, same_if}
use Rattle.hub_store.specs.Lines.{lines_at}
use Rattle.hub_order_lines.specs.Book.{Orders, order_in, rows}
use Rattle.hub_order_lines.specs.KnownLines.{AddsUp}
use Rattle.hub_order_lines.specs.KnownOrders.{is_kept, AddsOrder, ForgetsOrder}
use Rattle.hub_order_lines.specs.declared.facts.LineFacts.{LineFacts}
use Rattle.hub_rules.specs.DespatchRules.{judge_new_despatch}
use Rattle.hub_rules.specs.Rules.{judge_despatch}
use Rattle.hub_rules.specs.declared.incoming.IncomingMessage.{IncomingMessage}
use Rattle.hub_judges.specs.Known.{names_order, TellsForDespatch, TellsRemembered}
use Rattle.hub_judges.specs.declared.known.Known.{Known}
use Rattle.hub_naming.specs.Lines.{LinesOfOrders, names_line, NamesLines}
use Rattle.hub_transactions.specs.Orders.{bare, AgreeOnLines, ForgetsOrders, KeepsAsked, KeepsOrders, TellsAlike}
use Rattle.hub_transactions.proofs.Asked.{message_local, new_despatch_local}
use Rattle.hub_transactions.proofs.ByNumber.{all_numbered, filter_all, found_among, passes_filter}
use Rattle.hub_transactions.proofs.LookUps.{keeps_one_more, still_kept}

-- Lists.

none_pass : {X : Type 0} (p : X → Bool) (xs : List X) → AllByRecursion (λ x. p x ≡ false) xs → filter p xs ≡ []
none_pass p [] none = refl
none_pass p (x ∷ xs) none = ap (λ v. cond v (x ∷ filter p xs) (filter p xs)) none.0 ∙ none_pass p xs none.1

-- the elements that pass a test and so fail another are among those that fail the other
filter_other : {X : Type 0} (p q : X → Bool) (xs : List X) → ((x : X) → q x ≡ true → p x ≡ false)
    → filter q (filter (λ x. not (p x)) xs) ≡ filter q xs
filter_other p q [] apart = refl
filter_other p q (x ∷ xs) apart =
    let ih = filter_other p q xs apart in
    elim (decide (q x)) [
      | inl passes ↦
          let fails = apart x passes in
          ap (λ v. filter q (cond (not v) (x ∷ filter (λ x. not (p x)) xs) (filter (λ x. not (p x)) xs))) fails
          ∙ ap (λ v. cond v (x ∷ filter q (filter (λ x. not (p x)) xs)) (filter q (filter (λ x. not (p x)) xs))) passes
          ∙ ap (λ rest. x ∷ rest) ih
          ∙ sym (ap (λ v. cond v (x ∷ filter q xs) (filter q xs)) passes)
      | inr fails ↦
          either (p x) fails ih
    ]
  where
    either : (v : Bool) → q x ≡ false → filter q (filter (λ x. not (p x)) xs) ≡ filter q xs
        → filter q (cond (not v) (x ∷ filter (λ x. not (p x)) xs) (filter (λ x. not (p x)) xs)) ≡ cond (q x) (x ∷ filter q xs) (filter q xs)
    either true fails ih = ih ∙ sym (ap (λ w. cond w (x ∷ filter q xs) (filter q xs)) fails)
    either false fails ih =
        ap (λ w. cond w (x ∷ filter q (filter (λ x. not (p x)) xs)) (filter q (filter (λ x. not (p x)) xs))) fails
        ∙ ih ∙ sym (ap (λ w. cond w (x ∷ filter q xs) (filter q xs)) fails)

among_append : (order : List ℕ) (xs : List (List ℕ)) (number : List ℕ)
    → is_among order (xs ++ number ∷ []) ≡ (is_among order xs || same order number)
among_append order [] number = or_false (same order number)
  where
    or_false : (v : Bool) → (v || false) ≡ v
    or_false true = refl
    or_false false = refl
among_append order (x ∷ xs) number =
    ap (λ v. same order x || v) (among_append order xs number) ∙ or_assoc (same order x) (is_among order xs) (same order number)
  where
    or_assoc : (a b c : Bool) → (a || (b || c)) ≡ ((a || b) || c)
    or_assoc true b c = refl
    or_assoc false b c = refl

pub numbers_append : (xs : List (Bor (List ℕ))) (key : Bor (List ℕ))
    → map (λ number. number.now) (xs ++ key ∷ []) ≡ map (λ number. number.now) xs ++ key.now ∷ []
numbers_append [] key = refl
numbers_append (x ∷ xs) key = ap (λ rest. x.now ∷ rest) (numbers_append xs key)

-- Only the requested lines of an order are added.
module _ (asks : List ℕ → Option ℕ → Bool) (state : Tables) (order : List ℕ) (numbers : List ℕ) (seen : Tables) where
  -- the tables with only these lines of the order
  abbrev with_these : Tables
  with_these = record seen { lines = lines_at state order numbers ++ filter (λ line. not (same line.number order)) seen.lines }

  numbered_own : AllByRecursion (λ (line : LineRow). same line.number order ≡ true) (lines_at state order numbers)
  numbered_own =
      all_numbered (λ line. same line.number order ≡ true) (lines_of state order) numbers
      (passes_filter (λ line. same line.number order) state.lines)

  these : lines_of with_these order ≡ lines_at state order numbers
  these =
      filter-append (λ line. same line.number order) (lines_at state order numbers) (filter (λ line. not
      (same line.number order)) seen.lines)
      ∙ ap₂ (λ (xs ys : List LineRow). xs ++ ys)
      (filter_all (λ line. same line.number order) (lines_at state order numbers) numbered_own)
      (none_pass (λ line. same line.number order) (filter (λ line. not (same line.number order)) seen.lines)
      (all_weaker (λ line. not (same line.number order) ≡ true) (λ line. same line.number order ≡ false)
      (λ line fails. failed (same line.number order) fails) (filter (λ line. not (same line.number order)) seen.lines)
      (passes_filter (λ line. not (same line.number order)) seen.lines)))
      ∙ append-nil (lines_at state order numbers)
    where
      failed : (v : Bool) → not v ≡ true → v ≡ false
      failed true e = absurd (cc)
      failed false e = refl

  others : (other : List ℕ) → same other order ≡ false → lines_of with_these other ≡ lines_of seen other
  others other apart =
      filter-append (λ line. same line.number other) (lines_at state order numbers) (filter (λ line. not
      (same line.number order)) seen.lines)
      ∙ ap₂ (λ (xs ys : List LineRow). xs ++ ys)
      (none_pass (λ line. same line.number other) (lines_at state order numbers)
      (all_weaker (λ line. same line.number order ≡ true) (λ line. same line.number other ≡ false)
      (λ line own. not_other line own) (lines_at state order numbers) numbered_own))
      (filter_other (λ line. same line.number order) (λ line. same line.number other) seen.lines (λ line theirs. not_own line theirs))
    where
      not_other : (line : LineRow) → same line.number order ≡ true → same line.number other ≡ false
      not_other line own =
          elim (decide (same line.number other)) [
            | inl both ↦
                let is : same other order ≡ true =
                same_if other order (sym (same_is line.number other both) ∙ same_is line.number order own) in
                absurd (true≢false (sym is ∙ apart))
            | inr differ ↦ differ
          ]

      not_own : (line : LineRow) → same line.number other ≡ true → same line.number order ≡ false
      not_own line theirs =
          elim (decide (same line.number order)) [
            | inl both ↦
                let is : same other order ≡ true =
                same_if other order (sym (same_is line.number other theirs) ∙ same_is line.number order both) in
                absurd (true≢false (sym is ∙ apart))
            | inr differ ↦ differ
          ]

  -- they still agree with the state, if no other lines of the order are asked for
  still_agree : AgreeOnLines asks seen state
      → asks order None ≡ false
      → ((number : ℕ) → asks order (Some number) ≡ true → comes_among nat_eq number numbers ≡ true)
      → AgreeOnLines asks with_these state
  still_agree agree not_all few = record {
    rest = agree.rest;
    one = λ other number asked. elim (decide (same other order)) [
      | inl its ↦
          let is = same_is other order its in
          ap (λ o. find (λ line. line.line == number) (lines_of with_these o)) is
          ∙ ap (find (λ line. line.line == number)) these
          ∙ found_among number numbers (lines_of state order)
          ∙ ap (λ v. cond v (find (λ line. line.line == number) (lines_of state order)) None)
          (few number (sym (ap (λ o. asks o (Some number)) is) ∙ asked))
          ∙ sym (ap (λ o. find (λ line. line.line == number) (lines_of state o)) is)
      | inr apart ↦ ap (find (λ line. line.line == number)) (others other apart) ∙ agree.one other number asked
    ];
    all = λ other asked. elim (decide (same other order)) [
      | inl its ↦ absurd (true≢false (sym asked ∙ ap (λ o. asks o None) (same_is other order its) ∙ not_all))
      | inr apart ↦ others other apart ∙ agree.all other asked
    ];
  }

module _ (asks : List ℕ → Option ℕ → Bool) (state : Tables) (apart : List (List ℕ)) (old : Orders) (order : List ℕ)
    (unkept : is_kept old order ≡ false) (before : KeepsAsked asks old apart state) where
  not_apart : is_among order apart ≡ false
  not_apart =
      elim (decide (is_among order apart)) [
        | inl among ↦ absurd (true≢false (sym (before.put order among) ∙ unkept))
        | inr differ ↦ differ
      ]

  -- whether the order exists does not depend on lines
  there_too : (t : Tables) → bare t ≡ bare before.seen → knows_order state order ≡ knows_order t order
  there_too t alike = ap (λ (t : Tables). knows_order t order) (sym before.agree.rest ∙ sym alike)

  pub put_whole : (new : Orders) → AddsOrder order (knows_order state order) (lines_of state order) old new
      → KeepsAsked asks new apart state
  put_whole new put = record {
    seen = before.seen;
    agree = before.agree;
    keeps = keeps_one_more before.seen order (knows_order state order) (lines_of state order) old new put (there_too before.seen refl)
        (sym (before.whole order not_apart)) before.keeps;
    whole = before.whole;
    put = λ other among. still_kept before.seen order (knows_order state order) (lines_of state order) old new put other
        (before.put other among);
  }

  pub put_part : (numbers : List ℕ) (new : Orders)
      → asks order None ≡ false
      → ((number : ℕ) → asks order (Some number) ≡ true → comes_among nat_eq number numbers ≡ true)
      → AddsOrder order (knows_order state order) (lines_at state order numbers) old new
      → KeepsAsked asks new (apart ++ order ∷ []) state
  put_part numbers new not_all few put =
      let seen = with_these asks state order numbers before.seen in
      let elsewhere : (other : List ℕ) → is_kept old other ≡ true → same other order ≡ false =
      λ other kept. elim (decide (same other order)) [
        | inl its ↦ absurd (true≢false (sym kept ∙ ap (is_kept old) (same_is other order its) ∙ unkept))
        | inr differ ↦ differ
      ] in
      let keeps : KeepsOrders old seen = record {
        there = λ other kept. before.keeps.there other kept;
        lines = λ other kept. others asks state order numbers before.seen other (elsewhere other kept) ∙ before.keeps.lines other kept;
        adds_up = before.keeps.adds_up;
      } in
      record {
        seen = seen;
        agree = still_agree asks state order numbers before.seen before.agree not_all few;
        keeps = keeps_one_more seen order (knows_order state order) (lines_at state order numbers) old new put (there_too seen refl)
            (sym (these asks state order numbers before.seen)) keeps;
        whole = λ other none.
            let parts = or_parts (is_among other apart) (same other order) (sym (among_append other apart order) ∙ none) in
            others asks state order numbers before.seen other parts.1 ∙ before.whole other parts.0;
        put = λ other among. elim (decide (same other order)) [
          | inl its ↦ ap (is_kept new) (same_is other order its) ∙ ap is_some put.known
          | inr differ ↦
              still_kept seen order (knows_order state order) (lines_at state order numbers) old new put other
              (before.put other (first (is_among other apart) (same other order) (sym (among_append other apart order) ∙ among) differ))
        ];
      }
    where
      first : (a b : Bool) → (a || b) ≡ true → b ≡ false → a ≡ true
      first true b e second = refl
      first false b e second = absurd (cc)

-- Orders are forgotten one after another.
pub forgets_none : (orders : Orders) → ForgetsOrders [] orders orders
forgets_none orders = record { gone = λ order among. absurd (cc); others = λ order none. refl }

pub forgets_on : (number : List ℕ) (numbers : List (List ℕ)) (old mid new : Orders)
    → ForgetsOrder number old mid
    → ForgetsOrders numbers mid new
    → ForgetsOrders (number ∷ numbers) old new
forgets_on number numbers old mid new first rest = record {
  gone = λ order among. elim (decide (is_among order numbers)) [
    | inl later ↦ rest.gone order later
    | inr not_later ↦
        let its : same order number ≡ true = first_of (same order number) (is_among order numbers) among not_later in
        ap is_some (rest.others order not_later)
        ∙ ap (is_kept mid) (same_is order number its) ∙ first.gone
  ];
  others = λ order none.
      let parts = or_parts (same order number) (is_among order numbers) none in
      rest.others order parts.1 ∙ first.others order parts.0;
}
  where
    first_of : (a b : Bool) → (a || b) ≡ true → b ≡ false → a ≡ true
    first_of true b e second = refl
    first_of false b e second = absurd (cc)

-- without the orders known by single lines, what is known is what the state has
pub kept_whole : (asks : List ℕ → Option ℕ → Bool) (state : Tables) (apart : List (List ℕ)) (old new : Orders)
    → KeepsAsked asks old apart state
    → ForgetsOrders apart old new
    → KeepsOrders new state
kept_whole asks state apart old new before forgets =
    let stays : (order : List ℕ) → is_kept new order ≡ true → is_among order apart ≡ false =
    λ order kept. elim (decide (is_among order apart)) [
      | inl among ↦ absurd (true≢false (sym kept ∙ forgets.gone order among))
      | inr differ ↦ differ
    ] in
    let same_order : (order : List ℕ) → is_kept new order ≡ true → order_in new order ≡ order_in old order =
    λ order kept. forgets.others order (stays order kept) in
    let was : (order : List ℕ) → is_kept new order ≡ true → is_kept old order ≡ true =
    λ order kept. sym (ap is_some (same_order order kept)) ∙ kept in
    record {
      there = λ order kept.
          ap (λ (t : Tables). knows_order t order) (sym before.agree.rest)
          ∙ before.keeps.there order (was order kept)
          ∙ sym (ap (λ o. unwrap_or (option_map (λ (known : Bool × List LineFacts). known.0) o) false) (same_order order kept));
      lines = λ order kept.
          sym (before.whole order (stays order kept))
          ∙ before.keeps.lines order (was order kept)
          ∙ sym (ap (λ o. rows (unwrap_or (option_map (λ (known : Bool × List LineFacts). known.1) o) [])) (same_order order kept));
      adds_up = λ order kept.
          subst (AllByRecursion AddsUp)
          (sym (ap (λ o. unwrap_or (option_map (λ (known : Bool × List LineFacts). known.1) o) []) (same_order order kept)))
          (before.keeps.adds_up order (was order kept));
    }

-- what is known by these lines is right for some rows over which the rules decide the same
pub asked_told : (named : LinesOfOrders) (used : List ℕ → Bool) (incoming : IncomingMessage) (despatch : Despatch) (state : Tables)
    (apart : List (List ℕ)) (known : Known)
    → KeepsAsked (names_line named) known.orders apart state
    → AllByRecursion (λ unit. NamesLines named unit.lines) despatch.units
    → TellsRemembered known Supplier incoming.control incoming.message incoming.content state
    → knows_advice state despatch.number ≡ known.number_known
    → ((sscc : List ℕ) → has_pallet state sscc ≡ true → used sscc ≡ true)
    → map (λ (unit : Unit). used unit.sscc) despatch.units ≡ known.used
    → ((order : List ℕ) → names_order despatch.units order ≡ true → is_kept known.orders order ≡ true)
    → TellsAlike (TellsForDespatch known used incoming despatch) (λ retailer row. judge_despatch retailer row used incoming despatch) state
asked_told named used incoming despatch state apart known before all remembered number there used_told kept = record {
  seen = before.seen;
  alike = λ retailer row.
      message_local (names_line named) retailer row Supplier incoming despatch.buyer despatch.supplier
      (λ s. judge_new_despatch s used despatch) (λ s. new_despatch_local
      (names_line named) s used despatch all) before.seen state before.agree;
  told = record {
    remembered = ap (λ (t : Tables). option_map (λ there. same there incoming.content)
        (remembered_content t Supplier incoming.control incoming.message)) before.agree.rest ∙ remembered;
    number = ap (λ (t : Tables). knows_advice t despatch.number) before.agree.rest ∙ number;
    used_there = λ sscc has. there sscc (sym (ap (λ (t : Tables). has_pallet t sscc) before.agree.rest) ∙ has);
    units = λ none unknown. record {
      used_told = used_told;
      orders = λ order names. before.keeps.there order (kept order names);
      lines = λ order names. before.keeps.lines order (kept order names);
    };
  };
}

-- if no order is known by single lines only, the state itself agrees
pub none_apart : (asks : List ℕ → Option ℕ → Bool) (state : Tables) (orders : Orders) → KeepsOrders orders state
    → KeepsAsked asks orders [] state
none_apart asks state orders keeps = record {
  seen = state;
  agree = record { rest = refl; one = λ order number asked. refl; all = λ order asked. refl };
  keeps = keeps;
  whole = λ order none. refl;
  put = λ order among. absurd (cc);
}
