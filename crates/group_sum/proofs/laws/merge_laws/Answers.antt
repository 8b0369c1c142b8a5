use Rattle.group_sum.proofs.MergeLaws.{merge_commutes, merge_associates, merge_nothing, merge_cancels}
use Rattle.group_sum.proofs.laws.merge_laws.Goals as goal

-- each is a lemma
pub returns : goal.returns
returns c = record {
  order = merge_commutes;
  grouping = λ columns first second third first_ok second_ok third_ok. merge_associates columns first_ok.some first second third first_ok.terms second_ok.terms third_ok.terms;
  nothing = λ list ok. merge_nothing list.columns ok.some list.terms ok.terms;
  back = λ columns first second part first_ok second_ok part_ok same. merge_cancels columns first_ok.some first second part first_ok.terms second_ok.terms part_ok.terms same;
}
