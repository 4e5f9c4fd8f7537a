use Rattle.std.proofs.Common.{arith, ◌≡◌, suc, ◌+◌, ◌*◌, ◌++◌, ◌∙◌, ap}
use Rattle.spf_apps_formats.specs.Huffman.{bits, bits_of}
use Rattle.spf_apps_formats.proofs.BitStrings.{whole_more, partial_more}
use Rattle.spf_apps_formats.proofs.bits.BitWriter.push_bit.Goals as goal

pub returns-in_ok-push : goal.returns-in_ok-push
returns-in_ok-push c =
    whole_more c.args.self.now.bytes.items c.push.new.self.items c.args.self.now.count c.args.self.now.partial c.number_of.result c.args.bit c.if-self-eq7.true c.number_of.ensures c.in_ok-push.ensures.items

pub returns-else-self-eq7 : goal.returns-else-self-eq7
returns-else-self-eq7 c =
    let next : c.args.self.now.count + 1 ≡ suc c.args.self.now.count = omega arith in
    ap (λ k. bits_of c.args.self.now.bytes.items ++ bits k (c.args.self.now.partial * 2 + c.number_of.result)) next
    ∙ partial_more c.args.self.now.bytes.items c.args.self.now.count c.args.self.now.partial c.number_of.result c.args.bit c.number_of.ensures
