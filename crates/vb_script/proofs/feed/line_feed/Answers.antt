use Rattle.std.proofs.Common.{eqb}
use Rattle.vb_script.proofs.Searches.{position-near}
use Rattle.vb_script.proofs.feed.line_feed.Goals as goal

pub returns-then-at-lt-NEAR : goal.returns-then-at-lt-NEAR
returns-then-at-lt-NEAR c =
    position-near (λ b. eqb b 10) c.args.bytes.now 32 c.line_feed_near-at.result
    c.if-bytes-ge-NEAR.true c.line_feed_near-at.ensures c.if-at-lt-NEAR.true
