-- The result of a put, with the queue.
mod Queued
