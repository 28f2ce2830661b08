use Rattle.std.proofs.lemmas.List.Sorted.{IsPermutation-sym}
use Rattle.gs1_ids.proofs.Neighbours.{neighbours_if_none, none_if_no_neighbours, none_in_order}
use Rattle.gs1_ids.proofs.overlap.none_overlap.Goals as goal

pub returns-clause-value : goal.returns-clause-value
returns-clause-value c =
    let was = c.args.prefixes.now in
    let sorted = c.sort_unstable.new.self in
    let same = c.sort_unstable.ensures.permutation in (
      λ free.
          none_in_order sorted was (IsPermutation-sym was sorted same)
          (none_if_no_neighbours sorted c.sort_unstable.ensures.sorted (c.are_free_of_the_next.ensures.0 free)),
      λ none. c.are_free_of_the_next.ensures.1 (neighbours_if_none sorted (none_in_order was sorted same none)),
    )
