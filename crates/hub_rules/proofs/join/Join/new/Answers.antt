use Rattle.std.proofs.Common.{◌≡◌, ◌∙◌, rules, ℕ, true, false, cond, List, Some, None, refl, sym, subst}
use Rattle.std.proofs.lemmas.Bool.{and_from}
use Rattle.gs1_ids.specs.Gln.{is_gln}
use Rattle.gs1_ids.proofs.Decided.{Decides-is_key}
use Rattle.hub_parties.specs.Key.{is_party_key}
use Rattle.hub_parties.specs.Prefixes.{are_company_prefixes, by_bytes, company_prefixes_of}
use Rattle.hub_rules.proofs.join.Join.new.Goals as goal

-- the company prefixes made from texts are valid
made_right : (texts made : List (List ℕ)) → company_prefixes_of texts ≡ Some made → are_company_prefixes made ≡ true
made_right texts made h =
    elim (are_company_prefixes (by_bytes texts)) as (λ v. are_company_prefixes (by_bytes texts) ≡ v
    → cond v (Some (by_bytes texts)) None ≡ Some made → are_company_prefixes made ≡ true) [
      | true ↦ λ right e. let same : by_bytes texts ≡ made = cc in subst (λ ps. are_company_prefixes ps ≡ true) same right
      | false ↦ λ wrong e. cc
    ] refl h

pub invariant_of-result : goal.invariant_of-result
invariant_of-result c =
    let gln : is_gln c.args.supplier ≡ true = (Decides-is_key 13 c.args.supplier).1 (search rules) in
    let prefixes = made_right c.args.prefixes.now c.in-Some-2.prefixes (sym c.in_ok-prefixes.ensures ∙ c.in-Some-2.is) in
    let key : is_party_key c.in-Some.key ≡ true = subst (λ k. is_party_key k ≡ true) (sym c.in-Some.ensures.1) c.in-Some.ensures.0 in
    and_from (is_gln c.args.supplier) _ gln (and_from (are_company_prefixes c.in-Some-2.prefixes) _ prefixes key)
