use Rattle.std.proofs.Common.{◌≡◌, ◌≤◌, ◌+◌, ◌++◌, drop, Some, true}
use Rattle.cap_cert.specs.Reading.{texts_of}
use Rattle.cap_cert.specs.Machine.{begun, IsInside}
use Rattle.cap_cert.specs.Drafts.{blank, gather}
use Rattle.cap_cert.proofs.collector.collect.Given as goal

abbrev pub invariant-tokens : goal.invariant-tokens
invariant-tokens l =
    record {
      told : l.certs.items ++ gather l.line (Some l.state) l.draft (drop l.index (texts_of l.bytes l.tokens)) ≡ gather 1 (Some begun) (blank 1) (texts_of l.bytes l.tokens);
      inside : IsInside true l.state;
      few : l.state.read ≤ l.index;
      lines : l.line ≤ l.index + 1;
    }
