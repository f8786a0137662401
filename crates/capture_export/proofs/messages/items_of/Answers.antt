-- `items_of` meets its contract: each arm is a case of `message_words`.
use Rattle.capture_export.proofs.messages.items_of.Goals as goal

pub returns-in-NoOperation : goal.returns-in-NoOperation
returns-in-NoOperation c = rw c.in-NoOperation.is c.of_connection.ensures

pub returns-in-Shutdown : goal.returns-in-Shutdown
returns-in-Shutdown c = rw c.in-Shutdown.is c.of_connection-in-Shutdown.ensures

pub returns-in-Ping : goal.returns-in-Ping
returns-in-Ping c = rw c.in-Ping.is c.of_connection-in-Ping.ensures

pub returns-in-PingAck : goal.returns-in-PingAck
returns-in-PingAck c = rw c.in-PingAck.is c.of_connection-in-PingAck.ensures

pub returns-in-Error : goal.returns-in-Error
returns-in-Error c = rw c.in-Error.is c.of_connection-in-Error.ensures

pub returns-in-IncrementRation : goal.returns-in-IncrementRation
returns-in-IncrementRation c = rw c.in-IncrementRation.is c.of_session.ensures

pub returns-in-Abort : goal.returns-in-Abort
returns-in-Abort c = rw c.in-Abort.is (rw c.flag.ensures.0 at c.of_session-in-Abort.ensures)

pub returns-in-Close : goal.returns-in-Close
returns-in-Close c = rw c.in-Close.is c.of_session-in-Close.ensures

pub returns-in-Acknowledgment : goal.returns-in-Acknowledgment
returns-in-Acknowledgment c = rw c.in-Acknowledgment.is c.of_session-in-Acknowledgment.ensures

pub returns-in-Data : goal.returns-in-Data
returns-in-Data c = rw c.in-Data.is (rw c.data_flags_of.ensures.0 at c.of_session-in-Data.ensures)
