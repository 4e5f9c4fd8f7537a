use Rattle.std.proofs.Common.{arith, ◌<◌, length}
use Rattle.std.proofs.lemmas.List.Sums.{sum_by_more}
use Rattle.spf_apps_formats.specs.Huffman.{share}
use Rattle.spf_apps_formats.proofs.huf1.first_oversubscribed.Goals as goal

pub returns-then-taken-gt-WHOLE : goal.returns-then-taken-gt-WHOLE
returns-then-taken-gt-WHOLE c =
    let inside : c.loop-symbol.symbol < length c.args.lengths.now = omega arith in
    let more = sum_by_more share c.args.lengths.now c.loop-symbol.symbol 0 inside in
    record {
      short = c.requires.short;
      inside = inside;
      before = omega (arith, c.loop-symbol.invariant);
      full = omega (arith, more, c.loop-symbol.invariant, c.share-taken.ensures, c.if-taken-gt-WHOLE.true);
    }
