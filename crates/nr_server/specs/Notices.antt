-- What an operator is told while the server serves.
use Rattle.std.specs.Prelude.{◌++◌, Option, None, Some, Result, Ok, Err, codes}
use Rattle.std.specs.Fmt.{decimal}
use Rattle.nr_model.specs.Bytes.{Bytes}
use Rattle.nr_service.specs.declared.dealing.Ends.{Ends}
use Rattle.nr_service.specs.declared.dealing.Ends.TheVariants as endings
use Rattle.nr_server.specs.declared.fault.Fault.{Fault}
use Rattle.nr_server.specs.declared.notice.Notice.{Notice}
use Rattle.nr_server.specs.declared.notice.Notice.TheVariants as notices

abbrev pub notice_text : Notice → Bytes
notice_text (notices.Down node connections) = codes "node " ++ (decimal node ++ (codes " is down: " ++ (decimal connections ++ codes " connections closed")))
notice_text (notices.Back node keys milliseconds) =
    codes "node " ++ (decimal node ++ (codes " is up again: " ++ (decimal keys ++ (codes " keys copied in " ++ (decimal milliseconds ++ codes " milliseconds")))))
notice_text (notices.NoCopy node tries) = codes "no memory to bring node " ++ (decimal node ++ (codes " back: " ++ (decimal tries ++ codes " tries")))
notice_text (notices.TurnedAway count) = codes "connections turned away: " ++ decimal count
notice_text (notices.Short count) = codes "no descriptor or memory for connections that wait: " ++ (decimal count ++ codes " tries")
notice_text notices.Ended = codes "ended in order"
notice_text notices.BrokenOff = codes "ended before all was written"

-- what is told as a server ends that was told to end so, and with what it ended
abbrev pub notice_of_end : Ends → Result (Unit {0}) Fault → Option Notice
notice_of_end endings.Not ended = None
notice_of_end endings.InOrder (Ok tt) = Some notices.Ended
notice_of_end endings.AtOnce (Ok tt) = Some notices.BrokenOff
notice_of_end endings.InOrder (Err why) = None
notice_of_end endings.AtOnce (Err why) = None
