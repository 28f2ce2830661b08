use Rattle.std.proofs.Common.{◌≡◌, ◌+◌, ◌&&◌, true, [], ◌∷◌, length, map, drop, refl, sym, ap, ◌∙◌}
use Rattle.std.proofs.lemmas.List.{drop_more, drop_all, length-map}
use Rattle.hub_tables.specs.declared.rows.PrefixRow.{PrefixRow}
use Rattle.hub_founding.specs.Gathered.{all_had}
use Rattle.hub_founding.proofs.Gathering.{and_rest, nothing_put, one_put, all_put}
use Rattle.hub_founding.proofs.gathered.gather_prefixes.Goals as goal

pub loop-row-init : goal.loop-row-init
loop-row-init c =
    let keys = c.args.keys.now in
    let empty = c.in_ok-lists.ensures in
    record {
      length = sym (length-map c.in_ok-lists.lists.items (λ list. list.items)) ∙ ap length empty ∙ length-map keys (λ row. []);
      had = λ rises. refl;
      read = λ rises. nothing_put c.args.prefixes.now keys ∙ ap (and_rest c.args.prefixes.now keys) (sym empty);
    }

pub loop-row-preserved : goal.loop-row-preserved
loop-row-preserved c =
    let keys = c.args.keys.now in
    let prefixes = c.args.prefixes.now in
    let i = c.loop-row.row-index in
    let row : PrefixRow = c.row-item.result in
    let rest = drop (i + 1) prefixes in
    let lists = map (λ list. list.items) c.loop-row.lists.items in
    let next : drop i prefixes ≡ row ∷ rest = drop_more prefixes i row c.loop-row-test.true ∙ ap (λ one. one ∷ rest) (sym c.row-item.is) in
    let known : c.in_ok-put_prefix.field-0 ≡ true = c.if-not-branch.false in
    record {
      length = c.in_ok-put_prefix.ensures.length;
      had = λ rises.
          c.loop-row.invariant.had rises ∙ ap (all_had keys) next
          ∙ ap (λ b. b && all_had keys rest) (sym (c.in_ok-put_prefix.ensures.had rises) ∙ known);
      read = λ rises.
          c.loop-row.invariant.read rises ∙ ap (λ left. and_rest left keys lists) next
          ∙ one_put row rest keys lists
          ∙ ap (and_rest rest keys) (sym (c.in_ok-put_prefix.ensures.put known rises));
    }

pub returns-clause-some : goal.returns-clause-some
returns-clause-some c =
    λ rises.
    let keys = c.args.keys.now in
    let lists = map (λ list. list.items) c.loop-row.lists.items in
    sym (c.loop-row.invariant.read rises
    ∙ ap (λ left. and_rest left keys lists) (drop_all c.loop-row.row-index c.args.prefixes.now c.loop-row-test.false)
    ∙ all_put keys lists (length-map c.loop-row.lists.items (λ list. list.items) ∙ c.loop-row.invariant.length))
