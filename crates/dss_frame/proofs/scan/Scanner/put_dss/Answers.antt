use Rattle.std.proofs.Common.{arith}
use Rattle.dss_frame.proofs.OneDss.Judging.{whole_dss}
use Rattle.dss_frame.proofs.scan.Scanner.put_dss.Goals as goal

pub is_short-requires : goal.is_short-requires
is_short-requires c = let w = whole_dss c.args.self.side c.args.bytes.now _ c.requires.whole in omega (arith, w.least, w.within)

pub short_body-body-requires-clause-first : goal.short_body-body-requires-clause-first
short_body-body-requires-clause-first c = let w = whole_dss c.args.self.side c.args.bytes.now _ c.requires.whole in w.size

pub short_body-body-requires-clause-whole : goal.short_body-body-requires-clause-whole
short_body-body-requires-clause-whole c = let w = whole_dss c.args.self.side c.args.bytes.now _ c.requires.whole in w.walk

pub with_body-dss-requires-clause-header : goal.with_body-dss-requires-clause-header
with_body-dss-requires-clause-header c = let w = whole_dss c.args.self.side c.args.bytes.now _ c.requires.whole in omega (arith, w.least, w.within)

pub long_body-requires-clause-first : goal.long_body-requires-clause-first
long_body-requires-clause-first c = let w = whole_dss c.args.self.side c.args.bytes.now _ c.requires.whole in w.size

pub long_body-requires-clause-whole : goal.long_body-requires-clause-whole
long_body-requires-clause-whole c = let w = whole_dss c.args.self.side c.args.bytes.now _ c.requires.whole in w.walk

pub with_body-dss-requires-2-clause-header : goal.with_body-dss-requires-2-clause-header
with_body-dss-requires-2-clause-header c = let w = whole_dss c.args.self.side c.args.bytes.now _ c.requires.whole in omega (arith, w.least, w.within)
