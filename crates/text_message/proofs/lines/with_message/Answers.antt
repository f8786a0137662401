-- `with_message` meets its contract: each arm is a case of the message's words.
use Rattle.text_message.proofs.lines.with_message.Goals as goal

pub returns-in-NoOperation : goal.returns-in-NoOperation
returns-in-NoOperation c = rw c.in-NoOperation.is c.item.ensures

pub returns-in-Shutdown : goal.returns-in-Shutdown
returns-in-Shutdown c = rw c.in-Shutdown.is c.item-in-Shutdown.ensures

pub returns-in-Ping : goal.returns-in-Ping
returns-in-Ping c = rw c.in-Ping.is c.item-in-Ping.ensures

pub returns-in-PingAck : goal.returns-in-PingAck
returns-in-PingAck c = rw c.in-PingAck.is c.item-in-PingAck.ensures

pub returns-in-Error : goal.returns-in-Error
returns-in-Error c = rw c.in-Error.is c.item-in-Error.ensures

pub returns-in-IncrementRation : goal.returns-in-IncrementRation
returns-in-IncrementRation c = rw c.in-IncrementRation.is c.increment.ensures

pub returns-in-Abort : goal.returns-in-Abort
returns-in-Abort c = rw c.in-Abort.is c.abort.ensures

pub returns-in-Close : goal.returns-in-Close
returns-in-Close c = rw c.in-Close.is c.item-in-Close.ensures

pub returns-in-Acknowledgment : goal.returns-in-Acknowledgment
returns-in-Acknowledgment c = rw c.in-Acknowledgment.is c.item-in-Acknowledgment.ensures

pub returns-in-Data : goal.returns-in-Data
returns-in-Data c = rw c.in-Data.is c.data.ensures
