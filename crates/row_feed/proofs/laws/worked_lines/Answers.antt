use Rattle.std.proofs.Common.{refl}
use Rattle.std.specs.Str.{chars, is_utf8}
use Rattle.std.specs.Char.{encode_utf8}
use Rattle.row_feed.specs.FeedLine.{feed_line_of}
use Rattle.row_feed.proofs.laws.worked_lines.Goals as goal

-- the definitions compute it
pub returns : goal.returns
unfolding feed_line_of is_utf8 chars encode_utf8
returns c = record {
  fact = refl;
  based = refl;
  insert = refl;
  change = refl;
  withdraw = refl;
  grow = refl;
  any_number = refl;
  no_change = refl;
  refused_change = refl;
  fields = refl;
  number = refl;
  fact_codes = refl;
  text = refl;
  other = refl;
  long = refl;
}
