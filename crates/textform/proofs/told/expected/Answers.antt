use Rattle.std.proofs.Common.{sym, ap}
use Rattle.textform.specs.Words.{expected}
use Rattle.textform.proofs.told.expected.Goals as goal

pub returns-in-Record : goal.returns-in-Record
returns-in-Record c = ap expected (sym c.in-Record.is)

pub returns-in-Overhead : goal.returns-in-Overhead
returns-in-Overhead c = ap expected (sym c.in-Overhead.is)

pub returns-in-Quantum : goal.returns-in-Quantum
returns-in-Quantum c = ap expected (sym c.in-Quantum.is)

pub returns-in-Maximum : goal.returns-in-Maximum
returns-in-Maximum c = ap expected (sym c.in-Maximum.is)

pub returns-in-Tick : goal.returns-in-Tick
returns-in-Tick c = ap expected (sym c.in-Tick.is)

pub returns-in-Flow : goal.returns-in-Flow
returns-in-Flow c = ap expected (sym c.in-Flow.is)

pub returns-in-Length : goal.returns-in-Length
returns-in-Length c = ap expected (sym c.in-Length.is)

pub returns-in-End : goal.returns-in-End
returns-in-End c = ap expected (sym c.in-End.is)

pub returns-in-OverheadFirst : goal.returns-in-OverheadFirst
returns-in-OverheadFirst c = ap expected (sym c.in-OverheadFirst.is)

pub returns-in-OneOverhead : goal.returns-in-OneOverhead
returns-in-OneOverhead c = ap expected (sym c.in-OneOverhead.is)

pub returns-in-FlowsFirst : goal.returns-in-FlowsFirst
returns-in-FlowsFirst c = ap expected (sym c.in-FlowsFirst.is)

pub returns-in-EventsOnly : goal.returns-in-EventsOnly
returns-in-EventsOnly c = ap expected (sym c.in-EventsOnly.is)

pub returns-in-FewerFlows : goal.returns-in-FewerFlows
returns-in-FewerFlows c = ap expected (sym c.in-FewerFlows.is)

pub returns-in-FewerEvents : goal.returns-in-FewerEvents
returns-in-FewerEvents c = ap expected (sym c.in-FewerEvents.is)

pub returns-in-LaterTick : goal.returns-in-LaterTick
returns-in-LaterTick c = ap expected (sym c.in-LaterTick.is)

pub returns-in-Shorter : goal.returns-in-Shorter
returns-in-Shorter c = ap expected (sym c.in-Shorter.is)
